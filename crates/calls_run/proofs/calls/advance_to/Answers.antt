-- `advance_to` meets its contract: now alone where nothing is due by then, else all of it.
use Rattle.calls_run.proofs.Turns.{nothing_due}
use Rattle.calls_run.proofs.calls.advance_to.Goals as goal

pub returns-then-nothing_due : goal.returns-then-nothing_due
returns-then-nothing_due c = nothing_due _ _ _ _ c.requires.2 c.nothing_due.ensures c.if-nothing_due.true c.put_time.ensures
