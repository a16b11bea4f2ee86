-- `plus` meets its contract: one entry goes up, if there is one.
use Rattle.rules_walks.specs.Tally.{plus_at}
use borrow.Author.Tests.{lt-ltb, le-ltb}
use Rattle.table_frames.proofs.tally.plus.Goals as goal

pub returns-then-i-m : goal.returns-then-i-m
unfolding plus_at
returns-then-i-m c = rw (lt-ltb _ _ c.if-i-m.true)

pub returns-else-i-m : goal.returns-else-i-m
unfolding plus_at
returns-else-i-m c = rw (le-ltb _ _ c.if-i-m.false)
