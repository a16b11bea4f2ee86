-- Each return is the definition with the tests passed so far put in. Event and variable exist where their frames are read.
use Rattle.rules_tables.specs.Place.{owned_by}
use Rattle.rules_tables.specs.Reference.{joins}
use borrow.Author.Tests.{eq-eqb, ne_eqb}
use Rattle.table_references.proofs.joins.Goals as goal

pub returns-then-not-exists : goal.returns-then-not-exists
unfolding joins
returns-then-not-exists c = rw (← c.field-event.ensures.0, ← c.exists.ensures, c.if-not-exists.true)

pub returns-then-not-exists-2 : goal.returns-then-not-exists-2
unfolding joins owned_by
returns-then-not-exists-2 c = rw (← c.field-event.ensures.0, ← c.field-v.ensures.0, ← c.exists.ensures, c.if-not-exists.false, ← c.exists-2.ensures, c.if-not-exists-2.true)

pub returns-then-field-owner : goal.returns-then-field-owner
unfolding joins owned_by
returns-then-field-owner c =
    rw (← c.field-event.ensures.0, ← c.field-v.ensures.0, ← c.exists.ensures, c.if-not-exists.false, ← c.exists-2.ensures, c.if-not-exists-2.false)
    (rw (← c.place-p.ensures.0, ← c.field.ensures.0, ← c.owner.ensures.0, eq-eqb _ _ c.if-field-owner.true, ← c.flag.ensures.0))

pub returns-else-field-owner : goal.returns-else-field-owner
unfolding joins owned_by
returns-else-field-owner c =
    rw (← c.field-event.ensures.0, ← c.field-v.ensures.0, ← c.exists.ensures, c.if-not-exists.false, ← c.exists-2.ensures, c.if-not-exists-2.false)
    (rw (← c.place-p.ensures.0, ← c.field.ensures.0, ← c.owner.ensures.0, ne_eqb _ _ c.if-field-owner.false))
