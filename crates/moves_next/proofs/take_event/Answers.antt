-- `take_event` meets its contract: what is known of the event is what `receive` asks for.
use Rattle.moves_take.proofs.laws.Known.{at_frame, owner_in, event_known}
use Rattle.moves_next.proofs.take_event.Goals as goal

pub flag-requires : goal.flag-requires
flag-requires c = owner_in _ _ _ (at_frame _ 0 c.input_frame.ensures.is c.field-element.ensures.0) c.args.ix.now.net.good c.requires.0

pub receive-requires : goal.receive-requires
receive-requires c = (c.requires.0, event_known _ _ _ _ (at_frame _ 0 c.input_frame.ensures.is c.field-element.ensures.0) c.flag.ensures.0 c.birth_in.ensures c.last_update_in.ensures, c.requires.1, rw c.birth_in.ensures c.requires.2, c.requires.3)
