-- Each return is the definition with the tests passed so far put in, in the order of the code. The state exists where its owner is read.
use Rattle.rules_tables.specs.Reference.{acts}
use Rattle.table_references.proofs.walk.Walk.acts.Goals as goal

pub returns-then-not-exists : goal.returns-then-not-exists
unfolding acts
returns-then-not-exists c = rw (← c.field-state.ensures.0, ← c.exists.ensures, c.if-not-exists.true)

pub returns-then-steps_of : goal.returns-then-steps_of
unfolding acts
returns-then-steps_of c =
    rw (← c.field-state.ensures.0, ← c.exists.ensures, c.if-not-exists.false, ← c.owner-el.ensures.0)
    (rw (← c.field.ensures.0, ← c.field-2.ensures.0, ← c.steps_of.ensures, c.if-steps_of.true, ← c.field-then-steps_of.ensures.0) c.maybe_owned.ensures)

pub returns-else-steps_of : goal.returns-else-steps_of
unfolding acts
returns-else-steps_of c =
    rw (← c.field-state.ensures.0, ← c.exists.ensures, c.if-not-exists.false, ← c.owner-el.ensures.0)
    (rw (← c.field.ensures.0, ← c.field-2.ensures.0, ← c.steps_of.ensures, c.if-steps_of.false))
