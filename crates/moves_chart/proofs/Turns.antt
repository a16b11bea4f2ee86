-- What each way through the chart leaves, over plain variables.
use mathlib.Core.Path.{◌≡◌, refl, sym, ◌∙◌, ap}
use mathlib.Core.List.{List}
use mathlib.Core.Bool.{Bool, true, false}
use Prim.Native.Nat.{ℕ, ◌+◌, ◌-◌, ◌≤◌, ◌<◌}
use native.Mathlib.Omega.{arith}
use lib.Dec.{eqb}
use borrow.Author.Tests.{eqb-false}
use Rattle.rules_walks.specs.Pick.{pick}
use Rattle.rules_walks.specs.First.{Sought, one, missing, first_from}
use Rattle.rules_walks.proofs.laws.First.{first_start, first_skip, first_hit, first_none}
use Rattle.rules_tables.specs.Frame.{field_at}
use Rattle.rules_tables.specs.declared.Shape.{Shape}
use Rattle.rules_tables.specs.Ids.{first_transition, first_action, transitions, actions, transition_frame}
use Rattle.rules_tables.specs.Owned.{any, belongs, nth}
use Rattle.rules_tables.specs.Actions.{action_of, action_number}
use Rattle.rules_moves.specs.Chart.{enabled, transition_of}
use Rattle.std.specs.Prelude.{Option, Some, None}
use Rattle.table_parts.specs.Found.{found_of}
use Rattle.table_parts.proofs.laws.Found.{was_one, was_missing}
use Rattle.table_index.specs.Leads.{Leads, or_end}
use Rattle.table_index.specs.Index.{Follows}
use Rattle.table_index.proofs.laws.Leads.{leads_first}
use Rattle.table_index.proofs.laws.Owned.{any_owner}
use Rattle.table_index.proofs.laws.Nth.{nth_at, nth_past}
use Rattle.table_index.proofs.laws.Actions.{action_nth, action_more}

-- the number of an action that was looked for
module _ (T : List ℕ) (S : Shape) (q k : ℕ) {w : ℕ} {f : Option ℕ} where
  pub number_missing : w ≡ k → f ≡ found_of (action_of T S q w) → f ≡ None → ◌≡◌ {A = ℕ} 0 (action_number T S q k)
  unfolding action_number
  number_missing a p m = rw (← a, was_missing (action_of T S q w) (sym p ∙ m))

  pub number_one : (j : ℕ) → w ≡ k → f ≡ found_of (action_of T S q w) → f ≡ Some j → k ≡ action_number T S q k
  unfolding action_number
  number_one j a p m = sym a ∙ rw (← a, was_one (action_of T S q w) j (sym p ∙ m))

-- the number of the action after the k-th, where the index leads from it
k_th : (T : List ℕ) (S : Shape) (q k j : ℕ) → action_of T S q k ≡ one j → (0 < k) × (nth T (first_action S) (actions S) any q (k - 1) ≡ one j)
unfolding action_of
k_th T S q k j e = by (eqb k 0) refl e
  where
    by : (b : Bool) → eqb k 0 ≡ b → pick b missing (nth T (first_action S) (actions S) any q (k - 1)) ≡ one j → (0 < k) × (nth T (first_action S) (actions S) any q (k - 1) ≡ one j)
    by true z p = absurd (let y : ◌≡◌ {A = ℕ} 0 1 = cc in omega arith)
    by false z p = let h = eqb-false k 0 z in (omega arith, p)

module _ (T : List ℕ) (S : Shape) (q j k : ℕ) (known : action_of T S q k ≡ one j) (there : j < actions S) {n r : ℕ} (many : n ≡ actions S)
    (led : Follows T (first_action S) any (actions S) j r) where
  led_to : r ≡ or_end (actions S) (nth T (first_action S) (actions S) any q (k - 1 + 1))
  led_to = action_more T S q (k - 1) (sym (ap (or_end (actions S)) (k_th T S q k j known).1)) there led

  next_is : {y : Sought} → nth T (first_action S) (actions S) any q (k - 1 + 1) ≡ y → action_of T S q (k + 1) ≡ y
  next_is p = let l = (k_th T S q k j known).0 in action_nth T S q (k + 1) (λ z. omega arith) (omega arith) p

  pub after_missing : n ≤ r → ◌≡◌ {A = ℕ} 0 (action_number T S q (k + 1))
  unfolding action_number
  after_missing h = rw (next_is (nth_past T (first_action S) (actions S) any q (k - 1 + 1) led_to (omega arith)))

  pub after_one : r < n → k + 1 ≡ action_number T S q (k + 1)
  unfolding action_number
  after_one h = rw (next_is (nth_at T (first_action S) (actions S) any q (k - 1 + 1) led_to (omega arith)))

-- ---- the transitions of a state, one after the other
module _ (T : List ℕ) (S : Shape) (s : List ℕ) (q event live : ℕ) where
  -- a transition from another state is not enabled
  elsewhere : (j : ℕ) → belongs T (first_transition S) any q j ≡ false → enabled T S s q event live j ≡ false
  unfolding belongs enabled
  elsewhere j e = rw e

  -- what the search knows at transition j: it is one from state q, or the end, and no enabled one was passed
  pub record Searching (j : ℕ) : Type 0 where
    pub leaves : j < transitions S → belongs T (first_transition S) any q j ≡ true
    pub rest : transition_of T S s q event live ≡ first_from (enabled T S s q event live) j (transitions S - j)

  pub search_begins : {j : ℕ} → Leads (belongs T (first_transition S) any q) 0 j (transitions S) → Searching j
  unfolding transition_of
  search_begins l =
      record { leaves = l.met; rest = first_start (enabled T S s q event live) (transitions S) ∙ leads_first l (enabled T S s q event live) elsewhere }

  -- where the index leads is nearer to the end
  pub search_nearer : {j i : ℕ} → Searching j → j < transitions S → Follows T (first_transition S) any (transitions S) j i → j < i
  search_nearer w there f = let l = (f.next q (w.leaves there)).from in omega arith

  -- the answer about transition j, with the state that it leaves
  module _ {j : ℕ} {r : Bool} (w : Searching j) (there : j < transitions S) (asked : r ≡ enabled T S s (field_at T (transition_frame S j) 0) event live j) where
    answer : r ≡ enabled T S s q event live j
    answer = rw (any_owner T (first_transition S) q j (w.leaves there)) at asked

    pub search_goes_on : {i : ℕ} → r ≡ false → Follows T (first_transition S) any (transitions S) j i → Searching i
    search_goes_on e f =
        let l = f.next q (w.leaves there) in
        record {
          leaves = l.met;
          rest = w.rest ∙ first_skip (enabled T S s q event live) j (transitions S) there (sym answer ∙ e) ∙ leads_first l (enabled T S s q event live) elsewhere;
        }

    pub search_hits : r ≡ true → Some j ≡ found_of (transition_of T S s q event live)
    search_hits e = sym (ap found_of (w.rest ∙ first_hit (enabled T S s q event live) j (transitions S) there (sym answer ∙ e)))

  pub search_ends : {j : ℕ} → Searching j → transitions S ≤ j → None ≡ found_of (transition_of T S s q event live)
  search_ends {j} w h = sym (ap found_of (w.rest ∙ first_none (enabled T S s q event live) j (transitions S) h))
