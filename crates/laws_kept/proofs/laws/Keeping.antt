-- Each change that the machine makes keeps a store well formed.
use Rattle.std.specs.Prelude.{◌≡◌, refl, List, Bool, true, false, ℕ, ◌-◌, ◌≤◌, ◌<◌, eqb}
use Rattle.std.proofs.Common.{sym, ap, ◌∙◌, ⊎_elim, arith, eqb-true, le-leb}
use Rattle.std.proofs.lemmas.Bool.{eqb-false}
use Rattle.rules_walks.proofs.laws.Pick.{test_cases}
use Rattle.rules_walks.specs.First.{Sought, one, missing}
use Rattle.rules_tables.specs.Frame.{flag_at, field_at}
use Rattle.rules_tables.specs.declared.Shape.{Shape}
use Rattle.rules_store.specs.declared.Running.{Running}
use Rattle.rules_tables.specs.Ids.{elements, inputs, variables, variable_frame, action_frame}
use Rattle.rules_store.specs.Running.{rest, entered}
use Rattle.rules_store.specs.Word.{now_of, running_element, current_event, running_of, next_due, chart_state, buffer}
use Rattle.rules_store.specs.Part.{Part, time, block, count, chart, due, input, sampled as «samples_part», buffered, just, also, SameBlock, SameDue, SameInput, Leaves}
use Rattle.rules_store.specs.Due.{earliest}
use Rattle.rules_store.proofs.laws.PutDue.{leaves_keeps}
use Rattle.rules_moves.specs.Fire.{fire}
use Rattle.rules_moves.proofs.laws.Untouched.{fire_untouched}
use Rattle.rules_moves.specs.Take.{sampled}
use Rattle.rules_tables.specs.Actions.{action_of, or_zero, action_number}
use Rattle.rules_store.specs.WellFormed.{step_ok}
use Rattle.rules_moves.specs.Connected.{connected}
use Rattle.rules_tables.specs.Lawful.{Lawful}
use Rattle.rules_moves.specs.Reached.{Reached}
use Rattle.rules_moves.proofs.laws.Firing.{fire_leaves, fire_marked}
use Rattle.rules_moves.proofs.laws.Taking.{sampled_leaves, sampled_input, sampled_other}
use Rattle.rules_store.specs.Formed.{InputFact, DueFact, ChartFact, Parts, Rest, Mode, Owner, Block, Formed}

-- ---- words that stay keep their facts
pub input_same : (S : Shape) (s s' : List ℕ) (i : ℕ) → SameInput S s s' i → now_of s' ≡ now_of s → InputFact S s i → InputFact S s' i
input_same S s s' i u n d =
    record {
      flagged = rw u.waits d.flagged;
      rests = λ e. let r = d.rests (sym u.waits ∙ e) in (u.born ∙ r.0, u.last ∙ r.1);
      waits = λ e. rw (u.born, u.last, n) (d.waits (sym u.waits ∙ e));
    }

pub due_same : (T s s' : List ℕ) (el : ℕ) → SameDue s s' el → now_of s' ≡ now_of s → DueFact T s el → DueFact T s' el
due_same T s s' el u n d =
    record { flagged = rw u.flag d.flagged; rests = λ e. u.at ∙ d.rests (sym u.flag ∙ e); due = λ e. rw (u.at, n) (d.due (sym u.flag ∙ e)) }

-- and so does a part that is not touched
module _ (T : List ℕ) (S : Shape) (f : Part → Bool) (s s' : List ℕ) (w : Leaves T S f s s') (p : Parts T S s) where
  pub same_charts : f chart ≡ false → (el : ℕ) → el < elements S → ChartFact T S s' el
  same_charts h el l = let c = p.charts el l in record { basic = λ e. rw (w.charts h el l) (c.basic e); other = λ n. w.charts h el l ∙ c.other n }

  pub same_dues : f time ≡ false → f due ≡ false → (el : ℕ) → el < elements S → DueFact T s' el
  same_dues t h el l = due_same T s s' el (w.dues h el l) (w.now t) (p.dues el l)

  pub same_next : f due ≡ false → next_due s' ≡ earliest s' (elements S)
  same_next h = (leaves_keeps T S f s s' w h (record { long = p.long; next = p.next })).next

  pub same_event_lem : f time ≡ false → f input ≡ false → (i : ℕ) → i < inputs S → InputFact S s' i
  same_event_lem t h i l = input_same S s s' i (w.waits h i l) (w.now t) (p.events i l)

  pub same_buffers : f buffered ≡ false → (v : ℕ) → v < variables S → (flag_at T (variable_frame S v) ≡ 0 → ⊥) → buffer S s' v ≡ 0
  same_buffers h v l n = w.buffers h v l ∙ p.buffers v l n

  -- the rest, whatever is touched but now
  pub kept_parts : f time ≡ false → ((el : ℕ) → el < elements S → ChartFact T S s' el) → ((el : ℕ) → el < elements S → DueFact T s' el)
      → next_due s' ≡ earliest s' (elements S) → ((i : ℕ) → i < inputs S → InputFact S s' i) → ((v : ℕ) → v < variables S → (flag_at T (variable_frame S v) ≡ 0 → ⊥) → buffer S s' v ≡ 0) → Parts T S s'
  kept_parts t c d x e b =
      record {
        long = let a = p.long in let q = w.long in omega arith;
        in_time = rw (w.now t) p.in_time;
        spare = λ j l. w.spare j l ∙ p.spare j l;
        charts = c;
        dues = d;
        next = x;
        events = e;
        buffers = b;
      }

  -- where none is touched that has facts of its own
  pub calm_parts : f time ≡ false → f chart ≡ false → f due ≡ false → f input ≡ false → f buffered ≡ false → Parts T S s'
  calm_parts t c d e b = kept_parts t (same_charts c) (same_dues t d) (same_next d) (same_event_lem t e) (same_buffers b)

-- ---- the running block
module _ (T : List ℕ) (S : Shape) (s : List ℕ) where
  -- by what the store has
  pub busy_block : (e i q n : ℕ) (r : Running) → running_element s ≡ e → current_event s ≡ i → running_of s ≡ r → chart_state s (e - 1) ≡ q → now_of s ≡ n
      → Owner T S e i → r.birth ≤ n → Mode T S r q → Block T S s
  busy_block e i q n r he hi hr hq hn o b m =
      record {
        idle = λ z. absurd (awake_mode (ap (λ (x : Running). x.mode) (sym hr) ∙ z));
        busy =
            λ _.
            record {
              owner = rw (he, hi) o;
              born = rw (hr, hn) b;
              mode = rw (hr, he, hq) m;
            };
      }
    where
      awake_mode : r.mode ≡ 0 → ⊥
      awake_mode z = ⊎_elim (λ y. let c = eqb-true r.mode 1 y in omega arith) (λ y. let c = (m.acting (eqb-false r.mode 1 y)).0 in omega arith) (test_cases (eqb r.mode 1))

  pub rest_block : running_element s ≡ 0 → current_event s ≡ 0 → running_of s ≡ rest → Block T S s
  rest_block e i h =
      record {
        idle =
            λ _.
            record {
              element = e;
              event = i;
              birth = ap (λ (x : Running). x.birth) h;
              live = ap (λ (x : Running). x.live) h;
              action = ap (λ (x : Running). x.action) h;
              step = ap (λ (x : Running). x.step) h;
            };
        busy = λ n. absurd (n (ap (λ (x : Running). x.mode) h));
      }

pub same_rest : {s s' : List ℕ} → SameBlock s s' → Rest s → Rest s'
same_rest u r =
    record {
      element = u.element ∙ r.element;
      event = u.event ∙ r.event;
      birth = ap (λ (x : Running). x.birth) u.running ∙ r.birth;
      live = ap (λ (x : Running). x.live) u.running ∙ r.live;
      action = ap (λ (x : Running). x.action) u.running ∙ r.action;
      step = ap (λ (x : Running). x.step) u.running ∙ r.step;
    }

-- untouched
pub same_blocked : (T : List ℕ) (S : Shape) (f : Part → Bool) (s s' : List ℕ) → Leaves T S f s s' → f time ≡ false → f block ≡ false → f chart ≡ false → Block T S s → Block T S s'
same_blocked T S f s s' w t h c b =
    let u = w.running h in
    let m = ap (λ (x : Running). x.mode) u.running in
    record {
      idle = λ z. same_rest u (b.idle (sym m ∙ z));
      busy =
          λ n.
          let r = b.busy (λ z. n (m ∙ z)) in
          let el = running_element s - 1 in
          let q = w.charts c el (let a = r.owner.element in let d = r.owner.within in omega arith) in
          record {
            owner = rw (u.element, u.event) r.owner;
            born = rw (u.running, w.now t) r.born;
            mode = rw (u.running, u.element, q) r.mode;
          };
    }

-- a state whose k-th action, or none, is entered
first_step : (T : List ℕ) (S : Shape) (r : Running) (n j : ℕ) → step_ok T S (entered n r) (one j) ≡ true
unfolding step_ok
first_step T S r n j = le-leb 0 (field_at T (action_frame S j) 2) (omega arith)

no_action : (T : List ℕ) (S : Shape) (r : Running) (q : ℕ) → step_ok T S (entered 0 r) (action_of T S q 0) ≡ true
unfolding step_ok action_of
no_action T S r q = refl

pub entered_mode : (T : List ℕ) (S : Shape) (q n : ℕ) (r : Running) → Mode T S (entered (action_number T S q n) r) q
unfolding action_number
entered_mode T S q n r = record { charting = λ z. absurd (omega arith); acting = λ _. (refl, refl, by (action_of T S q n) refl) }
  where
    by : (x : Sought) → action_of T S q n ≡ x → step_ok T S (entered (or_zero n x) r) (action_of T S q (or_zero n x)) ≡ true
    by (one j) e = rw e (first_step T S r n j)
    by missing e = no_action T S r q

module _ (T : List ℕ) (S : Shape) (k : Lawful T S) where
  -- ---- firing
  pub fire_formed : (o birth t : ℕ) (s : List ℕ) → now_of s ≡ t → birth ≤ t → Formed T S s → Formed T S (fire T S o birth t s)
  fire_formed o birth t s now-is l g =
      let f = also input (also count (just buffered)) in
      let s' = fire T S o birth t s in
      let w = fire_leaves T S k f refl refl refl o birth t s in
      let p = g.parts in
      record {
        parts =
            kept_parts T S f s s' w p refl (same_charts T S f s s' w p refl) (same_dues T S f s s' w p refl refl)
            (same_next T S f s s' w p refl) (λ i h. event i h (fire_marked T S k o birth t i s p.long h) (w.now refl))
            (λ v h n.
            fire_untouched T S o birth t v s k.is_good (λ j b e _. n (ap (λ (x : ℕ). flag_at T (variable_frame S x)) (sym e) ∙ k.destination_input j b)) ∙ p.buffers v h n);
        block = same_blocked T S f s s' w refl refl refl g.block;
      }
    where
      event : (i : ℕ) → i < inputs S → Reached S birth t i s (connected T S o i) (fire T S o birth t s) → now_of (fire T S o birth t s) ≡ now_of s → InputFact S (fire T S o birth t s) i
      event i h m n =
          ⊎_elim
          (λ e.
          let u = m.hit e in
          record {
            flagged = rw u.waits (omega arith);
            rests = λ z. absurd (let y = sym u.waits ∙ z in omega arith);
            waits = λ _. rw (u.born, u.updated, n) (l, omega arith);
          })
          (λ e. input_same S s (fire T S o birth t s) i (m.miss e) n (g.parts.events i h)) (test_cases (connected T S o i))

  -- ---- taking
  pub sampled_formed : (i : ℕ) (s : List ℕ) → i < inputs S → Formed T S s → Formed T S (sampled T S i s)
  sampled_formed i s l g =
      let f = also «samples_part» (just input) in
      let s' = sampled T S i s in
      let w = sampled_leaves T S k f refl refl i s l in
      let p = g.parts in
      record {
        parts =
            kept_parts T S f s s' w p refl (same_charts T S f s s' w p refl) (same_dues T S f s s' w p refl refl)
            (same_next T S f s s' w p refl) (λ c h. event c h (w.now refl)) (same_buffers T S f s s' w p refl);
        block = same_blocked T S f s s' w refl refl refl g.block;
      }
    where
      event : (c : ℕ) → c < inputs S → now_of (sampled T S i s) ≡ now_of s → InputFact S (sampled T S i s) c
      event c h n =
          ⊎_elim
          (λ e.
          let u = sampled_input T S k i s g.parts.long l in
          rw (eqb-true c i e) (record {
            flagged = rw u.waits (omega arith);
            rests = λ _. (u.born, u.updated);
            waits = λ z. absurd (let y = sym u.waits ∙ z in omega arith);
          }))
          (λ e. input_same S s (sampled T S i s) c (sampled_other T S k i c s h (eqb-false c i e)) n (g.parts.events c h)) (test_cases (eqb c i))
