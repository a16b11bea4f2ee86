-- `next_event` meets its contract: what was found decides.
use Rattle.moves_next.proofs.Turns.{event_one, event_missing}
use Rattle.moves_next.proofs.next_event.Goals as goal

pub returns-in_default : goal.returns-in_default
returns-in_default c = event_missing _ c.least.ensures c.in_default.is

pub returns : goal.returns
returns c = event_one _ c.least.ensures _ _ c.in-Some.is
