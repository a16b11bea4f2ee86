-- `tell_result` meets its contract.
use native.Mathlib.Omega.{arith}
use mathlib.Core.Path.{sym}
use Rattle.moves_tell.proofs.laws.Told.{room_same}
use Rattle.moves_tell.proofs.laws.Taped.{taped_same}
use Rattle.moves_tell.proofs.Telling.{result_is}
use Rattle.moves_tell.proofs.act.tell_result.Goals as goal

pub put_differing-requires : goal.put_differing-requires
put_differing-requires c = (record { kind_fits = omega arith; block_fits = omega arith; id_fits = omega arith }, room_same (sym (result_is _ _ _ _ _ c.variable_frame-f.ensures.is c.flag.ensures.0 c.result_kind.ensures.0 c.field.ensures.0 c.value_of.ensures)) c.requires.1)

pub returns : goal.returns
returns c = taped_same (result_is _ _ _ _ _ c.variable_frame-f.ensures.is c.flag.ensures.0 c.result_kind.ensures.0 c.field.ensures.0 c.value_of.ensures) c.put_differing.ensures
