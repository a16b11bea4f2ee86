-- `tell_change` meets its contract: the chart state, then the transition.
use native.Mathlib.Omega.{arith}
use mathlib.Core.Path.{sym}
use Rattle.moves_tell.proofs.laws.Told.{room_first, room_same}
use Rattle.moves_tell.proofs.laws.Taped.{space_rest, taped_then, taped_same}
use Rattle.moves_tell.proofs.Telling.{change_is}
use Rattle.moves_tell.proofs.act.tell_change.Goals as goal

pub put_differing-requires : goal.put_differing-requires
put_differing-requires c = (record { kind_fits = omega arith; block_fits = omega arith; id_fits = omega arith }, room_same (sym (change_is _ _ _ _ c.element_of-el.ensures.is c.chart_state.ensures c.transition_frame.ensures.is c.field.ensures.0)) (room_first _ _ _ _ c.requires.2))

pub put-requires : goal.put-requires
put-requires c = (rw c.happened.ensures record { kind_fits = omega arith; block_fits = omega arith; id_fits = omega arith }, room_same (rw (c.happened.ensures, c.element_of-el.ensures.is)) (space_rest _ _ _ c.requires.2 (taped_same (change_is _ _ _ _ c.element_of-el.ensures.is c.chart_state.ensures c.transition_frame.ensures.is c.field.ensures.0) c.put_differing.ensures)))

pub returns : goal.returns
returns c = taped_then _ _ _ (taped_same (change_is _ _ _ _ c.element_of-el.ensures.is c.chart_state.ensures c.transition_frame.ensures.is c.field.ensures.0) c.put_differing.ensures) (taped_same (rw (c.happened.ensures, c.element_of-el.ensures.is)) c.put.ensures)
