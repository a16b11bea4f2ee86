-- Each return is the definition with the tests passed so far put in, in the order of the code. The result exists where its frame is read.
use Rattle.rules_tables.specs.Reference.{steps_to}
use borrow.Author.Tests.{eq-eqb, ne_eqb}
use Rattle.table_references.proofs.steps_to.Goals as goal

pub returns-then-not-exists : goal.returns-then-not-exists
unfolding steps_to
returns-then-not-exists c = rw (← c.field-v.ensures.0, ← c.exists.ensures, c.if-not-exists.true)

pub returns-then-flag-eq-INPUT : goal.returns-then-flag-eq-INPUT
unfolding steps_to
returns-then-flag-eq-INPUT c =
    rw (← c.field-v.ensures.0, ← c.exists.ensures, c.if-not-exists.false, ← c.place-p.ensures.0, ← c.flag.ensures.0, eq-eqb _ _ c.if-flag-eq-INPUT.true)

pub returns-then-not-sort_is : goal.returns-then-not-sort_is
unfolding steps_to
returns-then-not-sort_is c =
    rw (← c.field-v.ensures.0, ← c.exists.ensures, c.if-not-exists.false, ← c.place-p.ensures.0, ← c.flag.ensures.0, ne_eqb _ _ c.if-flag-eq-INPUT.false, ← c.field-el.ensures.0, ← c.sort_is.ensures, c.if-not-sort_is.true)

pub returns-then-uses_own : goal.returns-then-uses_own
unfolding steps_to
returns-then-uses_own c =
    rw (← c.field-v.ensures.0, ← c.exists.ensures, c.if-not-exists.false, ← c.place-p.ensures.0, ← c.flag.ensures.0, ne_eqb _ _ c.if-flag-eq-INPUT.false, ← c.field-el.ensures.0, ← c.sort_is.ensures, c.if-not-sort_is.false)
    (rw (← c.uses_own.ensures, c.if-uses_own.true) c.uses_own-then-uses_own.ensures)

pub returns-else-uses_own : goal.returns-else-uses_own
unfolding steps_to
returns-else-uses_own c =
    rw (← c.field-v.ensures.0, ← c.exists.ensures, c.if-not-exists.false, ← c.place-p.ensures.0, ← c.flag.ensures.0, ne_eqb _ _ c.if-flag-eq-INPUT.false, ← c.field-el.ensures.0, ← c.sort_is.ensures, c.if-not-sort_is.false)
    (rw (← c.uses_own.ensures, c.if-uses_own.false))
