-- `tell_take` meets its contract: what changes, then what happens.
use Rattle.moves_tell.proofs.laws.Told.{room_first}
use Rattle.moves_tell.proofs.laws.Taped.{space_rest, taped_then}
use Rattle.moves_tell.proofs.laws.Taking.{el_is}
use Rattle.moves_tell.proofs.take.tell_take.Goals as goal

pub tell_values-requires : goal.tell_values-requires
tell_values-requires c = (c.requires.0, c.requires.1, el_is _ _ _ c.requires.0.is_lawful.is_good c.requires.1 c.input_frame.ensures.is c.field-el.ensures.0, room_first _ _ _ _ c.requires.2, c.requires.3)

pub tell_events-requires : goal.tell_events-requires
tell_events-requires c = (c.requires.1, el_is _ _ _ c.requires.0.is_lawful.is_good c.requires.1 c.input_frame.ensures.is c.field-el.ensures.0, space_rest _ _ _ c.requires.2 c.tell_values.ensures)

pub returns : goal.returns
returns c = taped_then _ _ _ c.tell_values.ensures c.tell_events.ensures
