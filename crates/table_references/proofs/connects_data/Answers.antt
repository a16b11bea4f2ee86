-- The definition at both outcomes of the first test.
use Rattle.rules_tables.specs.Reference.{connects_data}
use Rattle.table_references.proofs.connects_data.Goals as goal

pub returns-then-variable_with : goal.returns-then-variable_with
unfolding connects_data
returns-then-variable_with c = rw (← c.field.ensures.0, ← c.variable_with.ensures, c.if-variable_with.true, ← c.field-then-variable_with.ensures.0) c.variable_with-then-variable_with.ensures

pub returns-else-variable_with : goal.returns-else-variable_with
unfolding connects_data
returns-else-variable_with c = rw (← c.field.ensures.0, ← c.variable_with.ensures, c.if-variable_with.false)
