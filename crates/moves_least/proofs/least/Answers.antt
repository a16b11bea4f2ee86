-- `least` meets its contract: nothing waits, or the first that does leads to the least.
use Rattle.moves_least.proofs.Turns.{best_none}
use Rattle.moves_least.proofs.least.Goals as goal

pub returns-then-n-first : goal.returns-then-n-first
returns-then-n-first c = best_none _ _ _ c.next_waiting-first.ensures c.if-n-first.true c.inputs-n.ensures
