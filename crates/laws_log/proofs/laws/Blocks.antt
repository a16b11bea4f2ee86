-- Moves 2 to 6 keep the laws.
use Rattle.std.specs.Prelude.{◌≡◌, List, ℕ, ◌+◌, ◌-◌, ◌≤◌, ◌<◌, eqb}
use Rattle.std.proofs.Math.Path.{refl, ap}
use Rattle.std.proofs.Common.{sym, ◌∙◌, arith}
use Rattle.std.proofs.Math.Bool.{true}
use borrow.Author.Tests.{eqb-true, le-leb}
use Rattle.rules_walks.specs.Pick.{both}
use Rattle.rules_walks.proofs.laws.Pick.{both_left, both_right}
use Rattle.rules_walks.specs.First.{one, missing}
use Rattle.rules_walks.proofs.laws.First.{first_means}
use Rattle.rules_tables.specs.Frame.{field_at}
use Rattle.rules_tables.specs.declared.Shape.{Shape}
use Rattle.rules_store.specs.declared.Running.{Running}
use Rattle.rules_tables.specs.Ids.{elements, transitions, transition_frame, action_frame, step_frame}
use Rattle.rules_store.specs.Running.{rest, entered, stepped, charting}
use Rattle.rules_store.specs.Word.{now_of, running_element, current_event, put_owner, running_of, put_running, chart_state, put_chart_state}
use Rattle.rules_store.specs.Part.{count, input, buffered, just, also, calm, everything}
use Rattle.rules_store.proofs.laws.Writer.{leaves_owner, leaves_running, leaves_chart}
use Rattle.rules_store.proofs.laws.Own.{running_put}
use Rattle.rules_moves.specs.Chart.{heard, guard_holds, enabled, transition_of, change, go_idle, element_of, state_of}
use Rattle.rules_tables.specs.Actions.{action_of, action_number}
use Rattle.rules_moves.specs.Act.{one_step, step_move, event_of, end_move}
use Rattle.rules_moves.specs.Means.{Stepping}
use Rattle.rules_store.specs.WellFormed.{step_ok}
use Rattle.rules_tables.specs.Lawful.{Lawful}
use Rattle.rules_moves.proofs.laws.Next.{step_below}
use Rattle.rules_moves.proofs.laws.Moving.{change_leaves, idle_leaves, one_step_leaves}
use Rattle.rules_moves.specs.Take.{fire_found}
use Rattle.rules_moves.proofs.laws.Taking.{fire_found_leaves}
use Rattle.rules_store.specs.Formed.{Mode, Owner, Busy}
use Rattle.laws_kept.proofs.laws.Keeping.{entered_mode}
use Rattle.laws_kept.proofs.laws.Blocks.{rerun_formed, idle_formed, change_formed}
use Rattle.rules_log.specs.Log.{goes_on, Log, fire_log}
use Rattle.rules_log.specs.Origin.{born, Begun, current, origin}
use Rattle.laws_log.specs.Holds.{quiet}
use Rattle.laws_log.specs.Goes.{Goes}
use Rattle.laws_log.proofs.laws.Goes.{fire_found_goes, quiet_goes, calm_goes}

module _ (T : List ℕ) (S : Shape) (B : Begun) (k : Lawful T S) (s₀ : List ℕ) where
  -- the running block's next one is put: same birth, for the same element and event
  rerun_goes : (l : Log) (s : List ℕ) → Goes T S B s₀ l s → (r : Running) → Owner T S (running_element s) (current_event s) → ((running_of s).mode ≡ 0 → ⊥)
      → r.birth ≡ (running_of s).birth → (running_of s).birth ≤ now_of s → Mode T S r (chart_state s (running_element s - 1)) → Goes T S B s₀ l (put_running r s)
  rerun_goes l s g r o busy e b m =
      let p = g.holds.formed.parts in
      quiet_goes T S B k s₀ l s g (put_running r s) (leaves_running T S quiet s r refl) (rerun_formed T S r s p o (rw e b) m)
      (λ _. ap (λ (x : Running). born x.birth) (running_put S s p.long r) ∙ ap born e ∙ g.holds.births.running_born busy)

  module _ (l : Log) (s : List ℕ) (g : Goes T S B s₀ l s) (t : ℕ) (n : now_of s ≡ t) (busy : (running_of s).mode ≡ 0 → ⊥) where
    abbrev r : Running
    r = running_of s

    b : Busy T S s
    b = g.holds.formed.block.busy busy

    chain : born r.birth ≡ origin T S B l current
    chain = g.holds.births.running_born busy

    -- ---- 2
    changes : (j : ℕ) → j < transitions S → field_at T (transition_frame S j) 0 ≡ state_of s → Goes T S B s₀ l (change T S (element_of s) r j s)
    unfolding change
    changes j lj from =
        let to = field_at T (transition_frame S j) 1 in
        let el = element_of s in
        let y = put_chart_state el to s in
        let o = b.owner in
        let within : el < elements S = (let a = o.element in let d = o.within in omega arith) in
        let u = (leaves_chart T S everything s el to within refl).long in
        let long = g.holds.formed.parts.long in
        quiet_goes T S B k s₀ l s g (change T S el r j s) (change_leaves T S k quiet refl refl el r j s within) (change_formed T S k j s lj from b g.holds.formed)
        (λ _. ap (λ (x : Running). born x.birth) (running_put S y (omega arith) (entered (action_number T S to 1) r)) ∙ chain)

    pub change_goes : (j : ℕ) → transition_of T S s (state_of s) (current_event s) r.live ≡ one j → Goes T S B s₀ l (change T S (element_of s) r j s)
    unfolding transition_of enabled
    change_goes j e =
        let w = first_means (enabled T S s (state_of s) (current_event s) r.live) 0 (transitions S) j e in
        let a = field_at T (transition_frame S j) 0 in
        let c = field_at T (transition_frame S j) 2 in
        let from = eqb-true a (state_of s) (both_left (eqb a (state_of s)) (both (heard c (current_event s) r.live) (guard_holds T S s j)) w.passes) in
        changes j (let q = w.below in omega arith) from

    -- ---- 3
    pub idle_goes : Goes T S B s₀ l (go_idle s)
    unfolding go_idle
    idle_goes =
        let y = put_owner 0 0 s in
        let u = (leaves_owner T S everything s 0 0 refl).long in
        let long = g.holds.formed.parts.long in
        quiet_goes T S B k s₀ l s g (go_idle s) (idle_leaves T S k quiet refl s) (idle_formed T S s g.holds.formed)
        (λ m. absurd (m (ap (λ (x : Running). x.mode) (running_put S y (omega arith) rest))))

    -- ---- mode 2
    module _ (m2 : r.mode ≡ 1 → ⊥) where
      abbrev q : ℕ
      q = state_of s

      two : (r.mode ≡ 2) × (r.live ≡ 0) × (step_ok T S r (action_of T S q r.action) ≡ true)
      two = b.mode.acting m2

      -- 4
      pub step_goes : (i : ℕ) → Stepping T S r s i → Goes T S B s₀ l (step_move T S t r i s)
      unfolding step_move step_ok
      step_goes i st =
          let li = step_below T S r s k.is_good i st in
          let y = one_step T S (step_frame S i) (t - r.birth) s in
          let w = one_step_leaves T S k calm refl refl i (t - r.birth) s li in
          let u = w.running refl in
          let ch = w.charts refl (element_of s) (let a = b.owner.element in let d = b.owner.within in omega arith) in
          let m = ap (λ (x : Running). x.mode) u.running in
          let bi = ap (λ (x : Running). x.birth) u.running in
          rerun_goes l y (calm_goes T S B k s₀ l s g y (λ f c y. one_step_leaves T S k f c y i (t - r.birth) s li)) (stepped r) (rw (u.element, u.event) b.owner)
          (λ z. busy (sym m ∙ z)) (sym bi) (rw (bi, w.now refl) b.born) (rw (u.element, ch) (next st.action st.found st.left))
        where
          next : (j : ℕ) → action_of T S q r.action ≡ one j → r.step < field_at T (action_frame S j) 2 → Mode T S (stepped r) q
          next j e h =
              record {
                charting = λ z. absurd (m2 z);
                acting = λ _. (two.0, two.1, rw e (le-leb (r.step + 1) (field_at T (action_frame S j) 2) (omega arith)));
              }

      -- 5
      pub end_goes : (j : ℕ) → Goes T S B s₀ (fire_log (event_of T S j) goes_on s l) (end_move T S t q r j s)
      unfolding end_move
      end_goes j =
          let o = event_of T S j in
          let y = fire_found T S o r.birth t s in
          let f = fire_found_goes T S B k s₀ l s g o goes_on r.birth t n (let a = b.born in omega arith) chain in
          let w = fire_found_leaves T S k (also input (also count (just buffered))) refl refl refl o r.birth t s in
          let u = w.running refl in
          let ch = w.charts refl (element_of s) (let a = b.owner.element in let d = b.owner.within in omega arith) in
          let m = ap (λ (x : Running). x.mode) u.running in
          let bi = ap (λ (x : Running). x.birth) u.running in
          rerun_goes (fire_log o goes_on s l) y f (entered (action_number T S q (r.action + 1)) r) (rw (u.element, u.event) b.owner) (λ z. busy (sym m ∙ z)) (sym bi)
          (rw (bi, w.now refl) b.born) (rw (u.element, ch) (entered_mode T S q (r.action + 1) r))

      -- 6
      pub back_goes : action_of T S q r.action ≡ missing → Goes T S B s₀ l (put_running (charting r) s)
      unfolding step_ok
      back_goes e = rerun_goes l s g (charting r) b.owner busy refl b.born back
        where
          none_left : both (eqb r.action 0) (eqb r.step 0) ≡ true
          none_left = rw e at two.2

          back : Mode T S (charting r) q
          back =
              record {
                charting =
                    λ _.
                    (rw two.1 (omega arith), eqb-true r.action 0 (both_left (eqb r.action 0) (eqb r.step 0) none_left), eqb-true r.step 0 (both_right (eqb r.action 0) (eqb r.step 0) none_left));
                acting = λ z. absurd (z refl);
              }
