-- An action that is found is one of the table's, and its number is no larger than their count.
use Rattle.std.specs.Prelude.{◌≡◌, List, Bool, true, false, ℕ, ◌-◌, ◌<◌, ◌≤◌, eqb}
use Rattle.std.proofs.Common.{arith, eqb-true}
use Rattle.rules_walks.specs.Pick.{pick}
use Rattle.rules_walks.specs.First.{one, missing}
use Rattle.rules_walks.proofs.laws.Pick.{both_right}
use Rattle.rules_walks.proofs.laws.Count.{count_le}
use Rattle.rules_walks.proofs.laws.First.{first_in, first_true}
use Rattle.rules_tables.specs.declared.Shape.{Shape}
use Rattle.rules_tables.specs.Ids.{first_action, actions}
use Rattle.rules_tables.specs.Owned.{any, belongs, is_nth, nth, rank}
use Rattle.rules_tables.specs.Actions.{action_of}

-- an action that is there is one of the table's
pub action_below : (T : List ℕ) (S : Shape) (q k j : ℕ) → action_of T S q k ≡ one j → j < actions S
unfolding action_of
action_below T S q k j = by (eqb k 0)
  where
    by : (b : Bool) → pick b missing (nth T (first_action S) (actions S) any q (k - 1)) ≡ one j → j < actions S
    by true e = absurd (let z : ◌≡◌ {A = ℕ} 0 1 = cc in omega arith)
    by false e = let h = first_in (is_nth T (first_action S) any q (k - 1)) 0 (actions S) j e in omega arith

-- the number of an action is no larger than the number of actions
pub action_few : (T : List ℕ) (S : Shape) (q k j : ℕ) → action_of T S q k ≡ one j → k ≤ actions S
unfolding action_of is_nth
action_few T S q k j = by (eqb k 0)
  where
    by : (b : Bool) → pick b missing (nth T (first_action S) (actions S) any q (k - 1)) ≡ one j → k ≤ actions S
    by true e = absurd (let z : ◌≡◌ {A = ℕ} 0 1 = cc in omega arith)
    by false e =
        let l = first_in (is_nth T (first_action S) any q (k - 1)) 0 (actions S) j e in
        let t = first_true (is_nth T (first_action S) any q (k - 1)) 0 (actions S) j e in
        let n = eqb-true (rank T (first_action S) any q j) (k - 1) (both_right (belongs T (first_action S) any q j) (eqb (rank T (first_action S) any q j) (k - 1)) t) in
        let c = count_le (belongs T (first_action S) any q) j in
        omega arith
