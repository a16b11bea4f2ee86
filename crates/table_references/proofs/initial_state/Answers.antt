-- The answer is the definition at the flag and the field read; the element's id is its frame by what the caller knows.
use Rattle.rules_tables.specs.Reference.{initial_state}
use borrow.Author.Tests.{eq-eqb, ne_eqb}
use Rattle.table_references.proofs.initial_state.Goals as goal

pub returns-then-flag-ne-BASIC : goal.returns-then-flag-ne-BASIC
unfolding initial_state
returns-then-flag-ne-BASIC c = rw (← c.flag.ensures.0, ne_eqb _ _ c.if-flag-ne-BASIC.true)

pub returns-else-flag-ne-BASIC : goal.returns-else-flag-ne-BASIC
unfolding initial_state
returns-else-flag-ne-BASIC c = rw (← c.flag.ensures.0, eq-eqb _ _ c.if-flag-ne-BASIC.false, ← c.field.ensures.0, c.requires.1) c.owned.ensures
