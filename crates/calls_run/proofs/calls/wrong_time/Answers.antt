-- `wrong_time` meets its contract: before now, or too late.
use Rattle.rules_calls.specs.Calls.{wrong_time}
use borrow.Author.Tests.{lt-ltb, le-ltb}
use Rattle.calls_run.proofs.calls.wrong_time.Goals as goal

pub returns-then-to-time : goal.returns-then-to-time
unfolding wrong_time
returns-then-to-time c = rw (← c.time.ensures, lt-ltb _ _ c.if-to-time.true)

pub returns-else-to-time : goal.returns-else-to-time
unfolding wrong_time
returns-else-to-time c = rw (← c.time.ensures, le-ltb _ _ c.if-to-time.false)
