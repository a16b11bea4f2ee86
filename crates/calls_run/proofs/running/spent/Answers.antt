-- `spent` meets its contract.
use borrow.Author.Tests.{lt-ltb, le-ltb}
use Rattle.calls_run.proofs.running.spent.Goals as goal

pub returns-then-n-budget : goal.returns-then-n-budget
returns-then-n-budget c = rw (lt-ltb _ _ c.if-n-budget.true)

pub returns-else-n-budget : goal.returns-else-n-budget
returns-else-n-budget c = rw (le-ltb _ _ c.if-n-budget.false)
