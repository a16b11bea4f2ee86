-- The definition at both outcomes of the first test.
use Rattle.rules_tables.specs.Reference.{variable_with}
use Rattle.table_references.proofs.variable_with.Goals as goal

pub returns-then-exists : goal.returns-then-exists
unfolding variable_with
returns-then-exists c = rw (← c.exists.ensures, c.if-exists.true, ← c.flag_of.ensures)

pub returns-else-exists : goal.returns-else-exists
unfolding variable_with
returns-else-exists c = rw (← c.exists.ensures, c.if-exists.false)
