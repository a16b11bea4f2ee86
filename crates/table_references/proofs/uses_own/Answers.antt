-- The definition at both outcomes of the test; the number of used fields is the caller's.
use Rattle.rules_tables.specs.Reference.{uses_own}
use borrow.Author.Tests.{le-leb, lt-leb}
use Rattle.table_references.proofs.uses_own.Goals as goal

pub returns-then-u-j : goal.returns-then-u-j
unfolding uses_own
returns-then-u-j c = rw (← c.requires.2, le-leb _ _ c.if-u-j.true)

pub returns-else-u-j : goal.returns-else-u-j
unfolding uses_own
returns-else-u-j c = rw (← c.requires.2, lt-leb _ _ c.if-u-j.false, ← c.field.ensures.0) c.owned.ensures
