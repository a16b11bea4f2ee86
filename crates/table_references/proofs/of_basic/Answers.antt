-- The answer is the definition at the field read.
use Rattle.rules_tables.specs.Reference.{of_basic}
use Rattle.table_references.proofs.of_basic.Goals as goal

pub returns : goal.returns
unfolding of_basic
returns c = rw (← c.field.ensures.0) c.sort_is.ensures
