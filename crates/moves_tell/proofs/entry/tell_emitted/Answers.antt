-- `tell_emitted` meets its contract.
use native.Mathlib.Omega.{arith}
use mathlib.Core.Path.{sym}
use Rattle.moves_tell.proofs.laws.Told.{room_same}
use Rattle.moves_tell.proofs.laws.Taped.{taped_same}
use Rattle.moves_tell.proofs.Telling.{emitted_is}
use Rattle.moves_tell.proofs.entry.tell_emitted.Goals as goal

pub put-requires : goal.put-requires
put-requires c = (rw c.happened.ensures record { kind_fits = omega arith; block_fits = omega arith; id_fits = omega arith }, room_same (sym (emitted_is _ _ _ c.output_frame.ensures.is c.field-el.ensures.0 c.happened.ensures)) c.requires.1)

pub returns : goal.returns
returns c = taped_same (emitted_is _ _ _ c.output_frame.ensures.is c.field-el.ensures.0 c.happened.ensures) c.put.ensures
