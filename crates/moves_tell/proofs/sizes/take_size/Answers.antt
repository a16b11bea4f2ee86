-- `take_size` meets its contract: what changes, then what happens.
use Rattle.moves_tell.proofs.laws.Sized.{sized_then}
use Rattle.moves_tell.proofs.laws.Taking.{el_is}
use Rattle.moves_tell.proofs.sizes.take_size.Goals as goal

pub values_size-requires : goal.values_size-requires
values_size-requires c = (c.requires.0, c.requires.1, el_is _ _ _ c.requires.0.is_lawful.is_good c.requires.1 c.input_frame.ensures.is c.field-el.ensures.0, c.requires.2)

pub events_size-requires : goal.events_size-requires
events_size-requires c = (c.requires.1, el_is _ _ _ c.requires.0.is_lawful.is_good c.requires.1 c.input_frame.ensures.is c.field-el.ensures.0)

pub returns : goal.returns
returns c = sized_then c.values_size.ensures.0 c.events_size.ensures.0
