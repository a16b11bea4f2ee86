-- The move that comes next is what it says, and what it found is one of the table's.
use Rattle.std.specs.Prelude.{◌≡◌, List, Bool, ℕ, ◌+◌, ◌<◌}
use Rattle.std.proofs.Math.Path.{refl}
use Rattle.std.proofs.Common.{sym, ap, ◌∙◌, subst}
use Rattle.std.proofs.Math.Bool.{true, false}
use native.Mathlib.Omega.{arith}
use Rattle.std.proofs.Math.Dec.{eqb, ltb}
use borrow.Author.Tests.{eqb-true, eqb-false, lt-ltb, ltb-true, ltb-false}
use Rattle.rules_walks.specs.Choose.{choose}
use Rattle.rules_walks.specs.First.{Sought, one, missing}
use Rattle.rules_walks.proofs.laws.First.{first_in}
use Rattle.rules_tables.specs.Frame.{field_at}
use Rattle.rules_tables.specs.declared.Shape.{Shape}
use Rattle.rules_store.specs.declared.Running.{Running}
use Rattle.rules_tables.specs.Good.{Good}
use Rattle.rules_tables.specs.Ids.{inputs, transitions, actions, steps, action_frame}
use Rattle.rules_store.specs.Running.{idle, charts}
use Rattle.rules_store.specs.Word.{current_event}
use Rattle.rules_moves.specs.Least.{Best}
use Rattle.std.specs.Prelude.{Some, None}
use Rattle.rules_moves.specs.Least.{least}
use Rattle.rules_moves.proofs.laws.Leastness.{least_means}
use Rattle.rules_moves.specs.Chart.{enabled, transition_of, state_of}
use Rattle.rules_tables.specs.Actions.{action_of}
use Rattle.rules_tables.proofs.laws.Actions.{action_below}
use Rattle.rules_moves.specs.declared.Next.{Next}
use Rattle.rules_moves.specs.declared.Next.TheVariants.{Take, Change, Idle, Step, End, Back, Nothing}
use Rattle.rules_moves.specs.Next.{event_next, chart_next, act_next, next_by}
use Rattle.rules_moves.specs.Ready.{in_table, Ready}
use Rattle.rules_moves.specs.Means.{Acting, Stepping, Means}

module _ (T : List ℕ) (S : Shape) (r : Running) (s : List ℕ) where
  event_means : r.mode ≡ idle → (x : Best) → least T S s ≡ x → Means T S r s (event_next x)
  unfolding event_next
  event_means z (Some (i, k)) e = (z, least_means T S s i k e)
  event_means z None e = (z, e)

  chart_means : r.mode ≡ charts → (x : Sought) → transition_of T S s (state_of s) (current_event s) r.live ≡ x → Means T S r s (chart_next x)
  unfolding chart_next
  chart_means z (one j) e = (z, e)
  chart_means z missing e = (z, e)

  act_means : Acting r → (x : Sought) → action_of T S (state_of s) r.action ≡ x → Means T S r s (act_next T S r x)
  unfolding act_next choose
  act_means a (one j) e = at (ltb r.step (field_at T (action_frame S j) 2)) refl
    where
      at : (c : Bool) → ltb r.step (field_at T (action_frame S j) 2) ≡ c → Means T S r s (choose c (Step (field_at T (action_frame S j) 1 + r.step)) (End j))
      at true h = record { acting = a; action = j; found = e; left = ltb-true r.step (field_at T (action_frame S j) 2) h; is = refl }
      at false h = record { acting = a; found = e; done = ltb-false r.step (field_at T (action_frame S j) 2) h }
  act_means a missing e = (a, e)

  pub next_means : Means T S r s (next_by T S r s)
  unfolding next_by choose
  next_means = by (eqb r.mode idle) (eqb r.mode charts) refl refl
    where
      by : (a b : Bool) → eqb r.mode idle ≡ a → eqb r.mode charts ≡ b
          → Means T S r s
          (choose a (event_next (least T S s)) (choose b (chart_next (transition_of T S s (state_of s) (current_event s) r.live)) (act_next T S r (action_of T S (state_of s) r.action))))
      by true b p q = event_means (eqb-true r.mode idle p) (least T S s) refl
      by false true p q = chart_means (eqb-true r.mode charts q) (transition_of T S s (state_of s) (current_event s) r.live) refl
      by false false p q =
          act_means (record { not_idle = eqb-false r.mode idle p; not_charts = eqb-false r.mode charts q }) (action_of T S (state_of s) r.action) refl

  -- so does an answer that code gave
  pub answer_means : (n : Next) → n ≡ next_by T S r s → Means T S r s n
  answer_means n e = subst (Means T S r s) (sym e) next_means

  transition_below : (j : ℕ) → transition_of T S s (state_of s) (current_event s) r.live ≡ one j → j < transitions S
  unfolding transition_of
  transition_below j e = let h = first_in (enabled T S s (state_of s) (current_event s) r.live) 0 (transitions S) j e in omega arith

  -- ---- what was found is one of the table's
  module _ (g : Good T S) where
    pub step_below : (j : ℕ) → Stepping T S r s j → j < steps S
    step_below j m =
        let h = g.action_steps m.action r.step (action_below T S (state_of s) r.action m.action m.found) m.left in
        let e = m.is in
        omega arith

    known_by : (n : Next) → Means T S r s n → in_table S n ≡ true
    known_by (Take i) m = lt-ltb i (inputs S) m.1.inside
    known_by (Change j) m = lt-ltb j (transitions S) (transition_below j m.1)
    known_by Idle m = refl
    known_by (Step j) m = lt-ltb j (steps S) (step_below j m)
    known_by (End j) m = lt-ltb j (actions S) (action_below T S (state_of s) r.action j m.found)
    known_by Back m = refl
    known_by Nothing m = refl

    pub answer_ready : (n : Next) → n ≡ next_by T S r s → Ready S n
    answer_ready n e = record { known = known_by n (answer_means n e) }

-- the id that an answer found
module _ (S : Shape) (n : Next) (w : Ready S n) (j : ℕ) where
  pub ready_input : n ≡ Take j → j < inputs S
  ready_input e = ltb-true j (inputs S) (sym (ap (in_table S) e) ∙ w.known)

  pub ready_transition : n ≡ Change j → j < transitions S
  ready_transition e = ltb-true j (transitions S) (sym (ap (in_table S) e) ∙ w.known)

  pub ready_step : n ≡ Step j → j < steps S
  ready_step e = ltb-true j (steps S) (sym (ap (in_table S) e) ∙ w.known)

  pub ready_action : n ≡ End j → j < actions S
  ready_action e = ltb-true j (actions S) (sym (ap (in_table S) e) ∙ w.known)
