-- `end` meets its contract: the event is fired, which leaves the running block (`fired_runs`), then the next action comes (`ended`).
use Rattle.moves_next.proofs.Turns.{fired_runs, ended}
use Rattle.moves_next.proofs.act.end.Goals as goal

pub number_after-next-requires : goal.number_after-next-requires
number_after-next-requires c = (c.requires.0, rw (← c.state_of.ensures) at c.requires.1, c.requires.2)

pub put_entered-requires : goal.put_entered-requires
put_entered-requires c = fired_runs _ _ c.args.ix.now.indexed.lawful _ _ _ _ c.fire_event.ensures c.requires.3

pub returns : goal.returns
returns c = ended _ _ _ _ _ _ _ c.state_of.ensures c.number_after-next.ensures c.fire_event.ensures c.put_entered.ensures
