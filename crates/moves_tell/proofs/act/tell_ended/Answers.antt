-- `tell_ended` meets its contract: the action number, then the step number.
use native.Mathlib.Omega.{arith}
use mathlib.Core.Path.{refl, sym}
use Rattle.moves_tell.proofs.laws.Told.{room_first, room_same}
use Rattle.moves_tell.proofs.laws.Taped.{space_rest, taped_then, taped_same}
use Rattle.moves_tell.proofs.Telling.{ended_is}
use Rattle.moves_tell.proofs.act.tell_ended.Goals as goal

pub put-requires : goal.put-requires
put-requires c = (rw c.action_entry.ensures record { kind_fits = omega arith; block_fits = c.requires.1; id_fits = omega arith }, room_first _ _ _ _ (room_same (sym (ended_is _ _ _ _ c.action_entry.ensures refl refl refl)) c.requires.2))

pub put_differing-requires : goal.put_differing-requires
put_differing-requires c = (record { kind_fits = omega arith; block_fits = rw c.element_of.ensures.is c.requires.1; id_fits = omega arith }, space_rest _ _ _ (room_same (sym (ended_is _ _ _ _ c.action_entry.ensures c.action_frame.ensures.is c.field-steps.ensures.0 c.element_of.ensures.is)) c.requires.2) c.put.ensures)

pub returns : goal.returns
returns c = taped_same (ended_is _ _ _ _ c.action_entry.ensures c.action_frame.ensures.is c.field-steps.ensures.0 c.element_of.ensures.is) (taped_then _ _ _ c.put.ensures c.put_differing.ensures)
