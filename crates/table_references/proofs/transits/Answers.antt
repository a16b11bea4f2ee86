-- Each return is the definition with the tests passed so far put in, in the order of the code. The first state exists where its owner is read.
use Rattle.rules_tables.specs.Reference.{transits}
use Rattle.table_references.proofs.transits.Goals as goal

pub returns-then-not-exists : goal.returns-then-not-exists
unfolding transits
returns-then-not-exists c = rw (← c.field-from.ensures.0, ← c.exists.ensures, c.if-not-exists.true)

pub returns-then-not-owned : goal.returns-then-not-owned
unfolding transits
returns-then-not-owned c =
    rw (← c.field-from.ensures.0, ← c.exists.ensures, c.if-not-exists.false, ← c.owner-el.ensures.0)
    (rw (← c.field.ensures.0, ← c.owned.ensures, c.if-not-owned.true))

pub returns-then-not-maybe_owned : goal.returns-then-not-maybe_owned
unfolding transits
returns-then-not-maybe_owned c =
    rw (← c.field-from.ensures.0, ← c.exists.ensures, c.if-not-exists.false, ← c.owner-el.ensures.0)
    (rw (← c.field.ensures.0, ← c.owned.ensures, c.if-not-owned.false)
    (rw (← c.field-2.ensures.0, ← c.maybe_owned.ensures, c.if-not-maybe_owned.true)))

pub returns-then-uses_own : goal.returns-then-uses_own
unfolding transits
returns-then-uses_own c =
    rw (← c.field-from.ensures.0, ← c.exists.ensures, c.if-not-exists.false, ← c.owner-el.ensures.0)
    (rw (← c.field.ensures.0, ← c.owned.ensures, c.if-not-owned.false)
    (rw (← c.field-2.ensures.0, ← c.maybe_owned.ensures, c.if-not-maybe_owned.false, ← c.uses_own.ensures, c.if-uses_own.true) c.uses_own-then-uses_own.ensures))

pub returns-else-uses_own : goal.returns-else-uses_own
unfolding transits
returns-else-uses_own c =
    rw (← c.field-from.ensures.0, ← c.exists.ensures, c.if-not-exists.false, ← c.owner-el.ensures.0)
    (rw (← c.field.ensures.0, ← c.owned.ensures, c.if-not-owned.false)
    (rw (← c.field-2.ensures.0, ← c.maybe_owned.ensures, c.if-not-maybe_owned.false, ← c.uses_own.ensures, c.if-uses_own.false)))
