-- The definition at both outcomes of the test for none.
use Rattle.rules_tables.specs.Reference.{maybe_owned}
use borrow.Author.Tests.{eq-eqb, ne_eqb}
use Rattle.table_references.proofs.maybe_owned.Goals as goal

pub returns-then-id-eq-NONE : goal.returns-then-id-eq-NONE
unfolding maybe_owned
returns-then-id-eq-NONE c = rw (eq-eqb _ _ c.if-id-eq-NONE.true)

pub returns-else-id-eq-NONE : goal.returns-else-id-eq-NONE
unfolding maybe_owned
returns-else-id-eq-NONE c = rw (ne_eqb _ _ c.if-id-eq-NONE.false) c.owned.ensures
