-- The actions of a state, by number from 1, in table order; "action 1, or action 0 for a state with none".
use Rattle.std.specs.Prelude.{ℕ, ◌-◌, List, eqb}
use Rattle.rules_walks.specs.Pick.{pick}
use Rattle.rules_walks.specs.First.{Sought, one, missing}
use Rattle.rules_tables.specs.declared.Shape.{Shape}
use Rattle.rules_tables.specs.Ids.{first_action, actions}
use Rattle.rules_tables.specs.Owned.{any, nth}

-- the k-th action of state q, from 1; none for 0
unfoldable pub action_of : List ℕ → Shape → ℕ → ℕ → Sought
action_of T S q k = pick (eqb k 0) missing (nth T (first_action S) (actions S) any q (k - 1))

-- "action 1, or action 0 for a state with none"; "next action, or 0 after the last"
abbrev pub or_zero : ℕ → Sought → ℕ
or_zero k (one j) = k
or_zero k missing = 0

unfoldable pub action_number : List ℕ → Shape → ℕ → ℕ → ℕ
action_number T S q k = or_zero k (action_of T S q k)
