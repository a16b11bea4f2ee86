use Rattle.rules_calls.specs.Calls.{arrived}
use Rattle.calls_run.proofs.Turns.{source_voice}
use Rattle.calls_run.proofs.calls.arrive_by.Goals as goal

pub fire_by-requires : goal.fire_by-requires
fire_by-requires c = source_voice _ _ _ c.requires.0

pub returns : goal.returns
unfolding arrived
returns c = rw (c.fire_by.ensures, c.give_all.ensures, c.time-at.ensures)
