-- The definition at both outcomes of the first test.
use Rattle.rules_tables.specs.Reference.{connects_events}
use Rattle.table_references.proofs.connects_events.Goals as goal

pub returns-then-exists : goal.returns-then-exists
unfolding connects_events
returns-then-exists c = rw (← c.field.ensures.0, ← c.exists.ensures, c.if-exists.true, ← c.field-then-exists.ensures.0) c.exists-then-exists.ensures

pub returns-else-exists : goal.returns-else-exists
unfolding connects_events
returns-else-exists c = rw (← c.field.ensures.0, ← c.exists.ensures, c.if-exists.false)
