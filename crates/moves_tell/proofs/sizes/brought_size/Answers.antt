-- `brought_size` meets its contract: a frame, or none.
use native.Mathlib.Omega.{arith}
use Rattle.moves_tell.proofs.laws.Sized.{sized_none, sized_one, sized_same}
use Rattle.moves_tell.proofs.sizes.brought_size.Goals as goal

pub returns-in-Some : goal.returns-in-Some
returns-in-Some c = (sized_same (rw c.in-Some.is at c.brought.ensures.0) (sized_one _), omega arith)

pub returns-in-None : goal.returns-in-None
returns-in-None c = (sized_same (rw c.in-None.is at c.brought.ensures.0) sized_none, omega arith)
