-- The moves of a running block, due times and now: each keeps a store well formed.
use Rattle.std.specs.Prelude.{◌≡◌, List, ℕ, ◌+◌, ◌-◌, ◌≤◌, ◌<◌, eqb}
use Rattle.std.proofs.Math.Path.{refl}
use Rattle.std.proofs.Common.{sym, ap, ◌∙◌, ⊎_elim, eqb-true}
use native.Mathlib.Omega.{arith}
use Rattle.std.proofs.lemmas.Bool.{eqb-false}
use Rattle.rules_walks.proofs.laws.Pick.{test_cases}
use Rattle.rules_tables.specs.Frame.{flag_at, field_at}
use Rattle.rules_tables.specs.declared.Shape.{Shape}
use Rattle.rules_store.specs.declared.Running.{Running}
use Rattle.rules_tables.specs.Ids.{elements, inputs, input_frame, transitions, transition_frame, state_frame}
use Rattle.rules_store.specs.Running.{rest, awake, entered}
use Rattle.rules_store.specs.Word.{largest_due, largest_time, now_of, put_now, running_element, current_event, put_owner, running_of, put_running, chart_state, put_chart_state, due_flag, due_time}
use Rattle.rules_store.specs.Due.{put_due}
use Rattle.rules_store.specs.Part.{time, block, chart, due, just, calm, SameBlock, Leaves}
use Rattle.rules_store.proofs.laws.Writer.{leaves_now, leaves_owner, leaves_running, leaves_chart, leaves_due}
use Rattle.rules_store.specs.Own.{Due}
use Rattle.rules_store.proofs.laws.Own.{now_put, element_put, event_put, running_put, element_running, event_running, chart_put, chart_other}
use Rattle.rules_store.proofs.laws.PutDue.{due_put, due_other, put_keeps}
use Rattle.rules_moves.specs.Take.{wake}
use Rattle.rules_tables.specs.Actions.{action_number}
use Rattle.rules_moves.specs.Chart.{change, go_idle, element_of, state_of}
use Rattle.rules_tables.specs.Lawful.{StateOf, Lawful}
use Rattle.rules_store.specs.Formed.{DueFact, ChartFact, Parts, Mode, Owner, Busy, Block, Formed}
use Rattle.laws_kept.proofs.laws.Keeping.{due_same, same_charts, same_dues, same_next, same_event_lem, same_buffers, kept_parts, calm_parts, busy_block, rest_block, same_rest, same_blocked, entered_mode}

module _ (T : List ℕ) (S : Shape) where
  -- nothing that has facts is touched
  pub calm_formed : (s s' : List ℕ) → Leaves T S calm s s' → Formed T S s → Formed T S s'
  calm_formed s s' w g =
      record { parts = calm_parts T S calm s s' w g.parts refl refl refl refl refl; block = same_blocked T S calm s s' w refl refl refl g.block }

  -- ---- the running block
  parts_running : (r : Running) (s : List ℕ) → Parts T S s → Parts T S (put_running r s)
  parts_running r s p = calm_parts T S (just block) s (put_running r s) (leaves_running T S (just block) s r refl) p refl refl refl refl refl

  parts_owner : (e i : ℕ) (s : List ℕ) → Parts T S s → Parts T S (put_owner e i s)
  parts_owner e i s p = calm_parts T S (just block) s (put_owner e i s) (leaves_owner T S (just block) s e i refl) p refl refl refl refl refl

  -- its next one is put: for the element and event that the store has
  pub rerun_formed : (r : Running) (s : List ℕ) → Parts T S s → Owner T S (running_element s) (current_event s) → r.birth ≤ now_of s → Mode T S r (chart_state s (running_element s - 1))
      → Formed T S (put_running r s)
  rerun_formed r s p o b m =
      let s' = put_running r s in
      let w = leaves_running T S (just block) s r refl in
      let el = running_element s - 1 in
      let q = w.charts refl el (let a = o.element in let d = o.within in omega arith) in
      record {
        parts = parts_running r s p;
        block =
            busy_block T S s' (running_element s) (current_event s) (chart_state s el) (now_of s) r (element_running S s r) (event_running S s r) (running_put S s p.long r) q (w.now refl) o b m;
      }

  -- "Basic: mode 1, live."
  pub wake_formed : (el i birth : ℕ) (s : List ℕ) → el < elements S → flag_at T el ≡ 0 → i < inputs S → field_at T (input_frame S i) 0 ≡ el → birth ≤ now_of s
      → Formed T S s → Formed T S (wake el i birth s)
  unfolding wake
  wake_formed el i birth s le fl li ow b g =
      let y = put_owner (el + 1) (i + 1) s in
      let p = g.parts in
      let n = (leaves_owner T S (just block) s (el + 1) (i + 1) refl).now refl in
      let he = element_put S s p.long (el + 1) (i + 1) in
      let hi = event_put S s p.long (el + 1) (i + 1) in
      rerun_formed (awake birth) y (parts_owner (el + 1) (i + 1) s p) (rw (he, hi) owned) (rw n b)
      (record { charting = λ _. (omega arith, refl, refl); acting = λ z. absurd (z refl) })
    where
      back : (n : ℕ) → n + 1 - 1 ≡ n
      back n = omega arith

      owned : Owner T S (el + 1) (i + 1)
      owned =
          record {
            element = omega arith;
            within = omega arith;
            basic = ap (flag_at T) (back el) ∙ fl;
            event = omega arith;
            inside = omega arith;
            own = ap (λ (x : ℕ). field_at T (input_frame S x) 0) (back i) ∙ ow ∙ sym (back el);
          }

  -- "Mode 1, no such transition: idle."
  pub idle_formed : (s : List ℕ) → Formed T S s → Formed T S (go_idle s)
  unfolding go_idle
  idle_formed s g =
      let y = put_owner 0 0 s in
      let p = parts_owner 0 0 s g.parts in
      let long = g.parts.long in
      record {
        parts = parts_running rest y p;
        block =
            rest_block T S (put_running rest y) (element_running S y rest ∙ element_put S s long 0 0) (event_running S y rest ∙ event_put S s long 0 0) (running_put S y p.long rest);
      }

  -- "State changes, live ends, mode 2, step 0": transition j leaves the present state
  pub change_formed : Lawful T S → (j : ℕ) (s : List ℕ) → j < transitions S → field_at T (transition_frame S j) 0 ≡ state_of s → Busy T S s → Formed T S s
      → Formed T S (change T S (element_of s) (running_of s) j s)
  unfolding change
  change_formed k j s lj from b g =
      let el = element_of s in
      let to = field_at T (transition_frame S j) 1 in
      let y = put_chart_state el to s in
      let w = leaves_chart T S (just chart) s el to within refl in
      let u = w.running refl in
      let p = g.parts in
      let he = u.element in
      let now' = w.now refl in
      rerun_formed (entered (action_number T S to 1) (running_of s)) y
      (kept_parts T S (just chart) s y w p refl charts (same_dues T S (just chart) s y w p refl refl) (same_next T S (just chart) s y w p refl) (same_event_lem T S (just chart) s y w p refl refl) (same_buffers T S (just chart) s y w p refl))
      (rw (he, u.event) b.owner) (rw now' b.born) (rw (he, chart_put S s p.long el to within) (entered_mode T S to 1 (running_of s)))
    where
      within : element_of s < elements S
      within = let a = b.owner.element in let d = b.owner.within in omega arith

      own : StateOf T S (field_at T (transition_frame S j) 1) (element_of s)
      own =
          let t = k.to_own j lj in
          let c = (g.parts.charts (element_of s) within).basic b.owner.basic in
          record { exists = t.exists; own = t.own ∙ ap (λ (x : ℕ). field_at T (state_frame S x) 0) from ∙ c.own }

      charts : (c : ℕ) → c < elements S → ChartFact T S (put_chart_state (element_of s) (field_at T (transition_frame S j) 1) s) c
      charts c l =
          ⊎_elim
          (λ e.
          let q = eqb-true c (element_of s) e in
          rw q (record {
            basic = λ _. rw (chart_put S s g.parts.long (element_of s) (field_at T (transition_frame S j) 1) within) own;
            other = λ n. absurd (n b.owner.basic);
          }))
          (λ e.
          let q = chart_other S s (element_of s) c (field_at T (transition_frame S j) 1) (eqb-false c (element_of s) e) in
          let d = g.parts.charts c l in
          record { basic = λ z. rw q (d.basic z); other = λ n. q ∙ d.other n }) (test_cases (eqb c (element_of s)))

  -- ---- due times
  module _ (el flag t : ℕ) (s : List ℕ) (l : el < elements S) (g : Formed T S s) where
    pub due_formed : (now_of (put_due S el flag t s) ≡ now_of s → Due el flag t (put_due S el flag t s) → DueFact T (put_due S el flag t s) el) → Formed T S (put_due S el flag t s)
    due_formed h =
        let s' = put_due S el flag t s in
        let w = leaves_due T S (just due) s el flag t l refl in
        let p = g.parts in
        record {
          parts =
              kept_parts T S (just due) s s' w p refl (same_charts T S (just due) s s' w p refl) (λ c b. dues c b (w.now refl))
              (put_keeps S s p.long el flag t l).next (same_event_lem T S (just due) s s' w p refl refl) (same_buffers T S (just due) s s' w p refl);
          block = same_blocked T S (just due) s s' w refl refl refl g.block;
        }
      where
        dues : (c : ℕ) → c < elements S → now_of (put_due S el flag t s) ≡ now_of s → DueFact T (put_due S el flag t s) c
        dues c b n =
            ⊎_elim (λ e. rw (eqb-true c el e) (h n (due_put S s g.parts.long el flag t l)))
            (λ e. due_same T s (put_due S el flag t s) c (due_other S s el c flag t (eqb-false c el e)) n (g.parts.dues c b)) (test_cases (eqb c el))

  pub due_set : (el t : ℕ) (s : List ℕ) → el < elements S → flag_at T el ≡ 2 → now_of s ≤ t → t ≤ largest_due → Formed T S s → Formed T S (put_due S el 1 t s)
  due_set el t s l fl a b g =
      due_formed el 1 t s l g
      (λ n d.
      record {
        flagged = rw d.flagged (omega arith);
        rests = λ z. absurd (let y = sym d.flagged ∙ z in omega arith);
        due = λ _. rw (d.timed, n) (fl, a, b);
      })

  pub due_cleared : (el : ℕ) (s : List ℕ) → el < elements S → Formed T S s → Formed T S (put_due S el 0 0 s)
  due_cleared el s l g =
      due_formed el 0 0 s l g
      (λ n d. record { flagged = rw d.flagged (omega arith); rests = λ _. d.timed; due = λ z. absurd (let y = sym d.flagged ∙ z in omega arith) })

  -- ---- now
  pub now_formed : (t : ℕ) (s : List ℕ) → now_of s ≤ t → t ≤ largest_time → ((el : ℕ) → el < elements S → due_flag s el ≡ 1 → t ≤ due_time s el) → Formed T S s → Formed T S (put_now t s)
  now_formed t s a b d g =
      let s' = put_now t s in
      let w = leaves_now T S (just time) s t refl in
      let p = g.parts in
      let n = now_put S s p.long t in
      record {
        parts =
            record {
              long = let x = p.long in let q = w.long in omega arith;
              in_time = rw n b;
              spare = λ j l. w.spare j l ∙ p.spare j l;
              next = same_next T S (just time) s s' w p refl;
              charts = same_charts T S (just time) s s' w p refl;
              dues =
                  λ el l.
                  let u = w.dues refl el l in
                  let f = p.dues el l in
                  record {
                    flagged = rw u.flag f.flagged;
                    rests = λ z. u.at ∙ f.rests (sym u.flag ∙ z);
                    due = λ z. let y = sym u.flag ∙ z in let r = f.due y in rw (u.at, n) (r.0, d el l y, r.2);
                  };
              events =
                  λ i l.
                  let u = w.waits refl i l in
                  let f = p.events i l in
                  record {
                    flagged = rw u.waits f.flagged;
                    rests = λ z. let r = f.rests (sym u.waits ∙ z) in (u.born ∙ r.0, u.last ∙ r.1);
                    waits = λ z. let r = f.waits (sym u.waits ∙ z) in let q = r.1 in rw (u.born, u.last, n) (r.0, omega arith);
                  };
              buffers = same_buffers T S (just time) s s' w p refl;
            };
        block = moved g.block (w.running refl) n;
      }
    where
      moved : Block T S s → SameBlock s (put_now t s) → now_of (put_now t s) ≡ t → Block T S (put_now t s)
      moved bl u n =
          let w = leaves_now T S (just time) s t refl in
          let m = ap (λ (x : Running). x.mode) u.running in
          record {
            idle = λ z. same_rest u (bl.idle (sym m ∙ z));
            busy =
                λ z.
                let r = bl.busy (λ q. z (m ∙ q)) in
                let el = running_element s - 1 in
                let q = w.charts refl el (let x = r.owner.element in let y = r.owner.within in omega arith) in
                record {
                  owner = rw (u.element, u.event) r.owner;
                  born = rw (u.running, n) (let x = r.born in omega arith);
                  mode = rw (u.running, u.element, q) r.mode;
                };
          }
