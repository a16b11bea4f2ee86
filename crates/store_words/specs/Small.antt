-- A shape small enough for every place in the store to be a number that the machine can hold.
use Rattle.std.specs.Prelude.{◌≤◌}
use Rattle.rules_tables.specs.declared.Shape.{Shape}
use Rattle.rules_tables.specs.Ids.{elements, inputs, variables}

-- of a shape of a table within its length: enough for the places above to be numbers that the machine can hold
pub record Small (S : Shape) : Type 0 where
  pub small_elements : elements S ≤ 4096
  pub small_inputs : inputs S ≤ 4096
  pub small_variables : variables S ≤ 4096
