-- `tell_idle` meets its contract.
use native.Mathlib.Omega.{arith}
use Rattle.moves_tell.proofs.laws.Told.{room_same}
use Rattle.moves_tell.proofs.laws.Taped.{taped_same}
use Rattle.moves_tell.proofs.act.tell_idle.Goals as goal

pub put-requires : goal.put-requires
put-requires c = (rw (c.happened.ensures, c.element_of.ensures.is) record { kind_fits = omega arith; block_fits = omega arith; id_fits = omega arith }, room_same (rw (c.happened.ensures, c.element_of.ensures.is)) c.requires.1)

pub returns : goal.returns
returns c = taped_same (rw (c.happened.ensures, c.element_of.ensures.is)) c.put.ensures
