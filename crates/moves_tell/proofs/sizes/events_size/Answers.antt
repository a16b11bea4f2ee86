-- `events_size` meets its contract: one after another.
use native.Mathlib.Omega.{arith}
use Rattle.moves_tell.proofs.laws.Sized.{sized_events}
use Rattle.moves_tell.proofs.laws.Taking.{element_in}
use Rattle.moves_tell.proofs.sizes.events_size.Goals as goal

pub finished_size-requires : goal.finished_size-requires
finished_size-requires c = (element_in _ _ _ c.args.ix.now.net.good c.requires.0 c.requires.1).1

pub returns : goal.returns
returns c = (sized_events _ _ _ c.requires.1 c.finished_size.ensures.0 c.partner_size.ensures.0, omega arith)
