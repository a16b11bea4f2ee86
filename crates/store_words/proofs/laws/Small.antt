-- The shape of a table that is good to run is small.
use Rattle.std.proofs.Common.{arith}
use Rattle.rules_tables.specs.Frame.{Table}
use Rattle.rules_tables.specs.declared.Shape.{Shape}
use Rattle.store_words.specs.Small.{Small}
use Rattle.rules_tables.specs.Good.{Good}

pub small : (T : Table) (S : Shape) → Good T S → Small S
small T S g = record { small_elements = omega arith; small_inputs = omega arith; small_variables = omega arith }
