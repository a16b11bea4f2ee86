-- `stretch` meets its contract: empty or not.
use Rattle.rules_tables.specs.View.{stretch}
use borrow.Author.Tests.{ne_eqb}
use Rattle.table_views.proofs.stretch.Goals as goal

pub returns-then-count-eq0 : goal.returns-then-count-eq0
unfolding stretch
returns-then-count-eq0 c = rw c.if-count-eq0.true

pub returns-else-count-eq0 : goal.returns-else-count-eq0
unfolding stretch
returns-else-count-eq0 c = rw (ne_eqb _ _ c.if-count-eq0.false)
