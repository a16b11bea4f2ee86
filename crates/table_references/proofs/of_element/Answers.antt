-- The answer is the definition at the field read.
use Rattle.rules_tables.specs.Reference.{of_element}
use Rattle.table_references.proofs.of_element.Goals as goal

pub returns : goal.returns
unfolding of_element
returns c = rw (← c.field.ensures.0) c.exists.ensures
