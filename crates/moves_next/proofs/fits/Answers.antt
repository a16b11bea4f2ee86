-- `fits` meets its contract: a record has 48 bytes at most (`size_most`), or its size says.
use Rattle.rules_moves.proofs.laws.Sizes.{size_most}
use Rattle.rules_moves.specs.Next.{size_by}
use borrow.Author.Tests.{le-leb}
use mathlib.Core.Path.{sym, ◌∙◌}
use native.Mathlib.Omega.{arith}
use Rattle.moves_next.proofs.fits.Goals as goal

pub returns-then-room-ge48 : goal.returns-then-room-ge48
returns-then-room-ge48 c = let h = size_most c.args.net.now.table.now c.args.net.now.shape c.args.time c.args.n c.args.store.now c.args.net.now.good in le-leb 48 _ c.if-room-ge48.true ∙ sym (le-leb (size_by c.args.net.now.table.now c.args.net.now.shape c.args.time c.args.n c.args.store.now) c.args.room (omega arith))
