-- `tell_finished` meets its contract.
use native.Mathlib.Omega.{arith}
use mathlib.Core.Path.{sym}
use Rattle.moves_tell.proofs.laws.Told.{room_same}
use Rattle.moves_tell.proofs.laws.Taped.{taped_none, taped_same}
use Rattle.moves_tell.proofs.laws.Taking.{not_at_once, at_once}
use Rattle.moves_tell.proofs.take.tell_finished.Goals as goal

pub returns-else-flag-ne-BASIC : goal.returns-else-flag-ne-BASIC
returns-else-flag-ne-BASIC c = taped_same (not_at_once _ _ c.flag.ensures.0 c.if-flag-ne-BASIC.false) (taped_none _)

pub put-requires : goal.put-requires
put-requires c = (rw c.happened.ensures record { kind_fits = omega arith; block_fits = omega arith; id_fits = omega arith }, room_same (rw c.happened.ensures (sym (at_once _ _ c.flag.ensures.0 c.if-flag-ne-BASIC.true))) c.requires.2)

pub returns-then-flag-ne-BASIC : goal.returns-then-flag-ne-BASIC
returns-then-flag-ne-BASIC c = taped_same (rw c.happened.ensures (at_once _ _ c.flag.ensures.0 c.if-flag-ne-BASIC.true)) c.put.ensures
