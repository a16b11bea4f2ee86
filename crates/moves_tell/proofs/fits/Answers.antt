-- `fits` meets its contract: the most, or what the move has.
use mathlib.Core.Path.{◌∙◌}
use borrow.Author.Tests.{le-leb}
use Rattle.moves_tell.proofs.laws.Sizing.{fits_most}
use Rattle.moves_tell.proofs.fits.Goals as goal

pub returns-then-room-ge-MOST : goal.returns-then-room-ge-MOST
returns-then-room-ge-MOST c = le-leb 240 _ c.if-room-ge-MOST.true ∙ fits_most _ _ _ _ _ _ c.args.turn.telling _ c.if-room-ge-MOST.true
