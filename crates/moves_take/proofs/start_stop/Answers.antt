-- `start_stop` meets its contract: START or STOP.
use Rattle.moves_take.proofs.Turns.{delay_start, delay_stop}
use Rattle.moves_take.proofs.start_stop.Goals as goal

pub returns-then-rank-eq0 : goal.returns-then-rank-eq0
returns-then-rank-eq0 c = delay_start _ _ _ _ _ _ _ c.rank.ensures.0 c.if-rank-eq0.true c.start.ensures

pub returns : goal.returns
returns c = delay_stop _ _ _ _ _ _ _ c.rank.ensures.0 c.if-rank-eq0.false c.put_due.ensures
