-- An action that code found is one of the table's.
use Rattle.std.specs.Prelude.{◌≡◌, List, ℕ, ◌<◌}
use Rattle.std.proofs.Common.{sym, ◌∙◌}
use Rattle.rules_tables.specs.declared.Shape.{Shape}
use Rattle.rules_tables.specs.Ids.{actions}
use Rattle.std.specs.Prelude.{Option}
use Rattle.std.specs.Prelude.{Some}
use Rattle.table_parts.specs.Found.{found_of}
use Rattle.rules_tables.specs.Actions.{action_of}
use Rattle.table_parts.proofs.laws.Found.{was_one}
use Rattle.rules_tables.proofs.laws.Actions.{action_below}

pub action_in : (T : List ℕ) (S : Shape) (q k j : ℕ) {f : Option ℕ} → f ≡ found_of (action_of T S q k) → f ≡ Some j → j < actions S
action_in T S q k j p m = action_below T S q k j (was_one (action_of T S q k) j (sym p ∙ m))
