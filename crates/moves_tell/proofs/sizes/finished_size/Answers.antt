-- `finished_size` meets its contract.
use native.Mathlib.Omega.{arith}
use Rattle.moves_tell.proofs.laws.Sized.{sized_none, sized_one, sized_same}
use Rattle.moves_tell.proofs.laws.Taking.{not_at_once, at_once}
use Rattle.moves_tell.proofs.sizes.finished_size.Goals as goal

pub returns-then-flag-eq-BASIC : goal.returns-then-flag-eq-BASIC
returns-then-flag-eq-BASIC c = (sized_same (not_at_once _ _ c.flag.ensures.0 c.if-flag-eq-BASIC.true) sized_none, omega arith)

pub returns-else-flag-eq-BASIC : goal.returns-else-flag-eq-BASIC
returns-else-flag-eq-BASIC c = (sized_same (at_once _ _ c.flag.ensures.0 c.if-flag-eq-BASIC.false) (sized_one _), omega arith)
