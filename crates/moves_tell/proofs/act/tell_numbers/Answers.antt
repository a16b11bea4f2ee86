-- `tell_numbers` meets its contract: by the move that was made.
use native.Mathlib.Omega.{arith}
use mathlib.Core.Path.{sym}
use Rattle.rules_moves.proofs.laws.Next.{ready_action}
use Rattle.moves_tell.proofs.laws.Told.{room_same}
use Rattle.moves_tell.proofs.laws.Taped.{taped_none, taped_same}
use Rattle.moves_tell.proofs.Telling.{take_told, change_told, idle_told, step_told, end_told, back_told, nothing_told}
use Rattle.moves_tell.proofs.act.tell_numbers.Goals as goal

pub put_differing-requires : goal.put_differing-requires
put_differing-requires c = (rw c.action_entry.ensures record { kind_fits = omega arith; block_fits = c.requires.0.at_change _ c.in-Change.is; id_fits = omega arith }, room_same (sym (change_told _ _ _ _ c.in-Change.is c.action_entry.ensures)) c.requires.1)

pub put-requires : goal.put-requires
put-requires c = (rw c.step_entry.ensures record { kind_fits = omega arith; block_fits = c.requires.0.at_step _ c.in-Step.is; id_fits = omega arith }, room_same (sym (step_told _ _ _ _ c.in-Step.is c.step_entry.ensures)) c.requires.1)

pub tell_ended-requires : goal.tell_ended-requires
tell_ended-requires c = (ready_action _ _ c.requires.0.is_ready _ c.in-End.is, c.requires.0.at_end _ c.in-End.is, room_same (sym (end_told _ _ _ _ c.in-End.is)) c.requires.1)

pub returns-in-Take : goal.returns-in-Take
returns-in-Take c = taped_same (take_told _ _ _ _ c.in-Take.is) (taped_none _)

pub returns-in-Change : goal.returns-in-Change
returns-in-Change c = taped_same (change_told _ _ _ _ c.in-Change.is c.action_entry.ensures) c.put_differing.ensures

pub returns-in-Idle : goal.returns-in-Idle
returns-in-Idle c = taped_same (idle_told _ _ _ _ c.in-Idle.is) (taped_none _)

pub returns-in-Step : goal.returns-in-Step
returns-in-Step c = taped_same (step_told _ _ _ _ c.in-Step.is c.step_entry.ensures) c.put.ensures

pub returns-in-End : goal.returns-in-End
returns-in-End c = taped_same (end_told _ _ _ _ c.in-End.is) c.tell_ended.ensures

pub returns-in-Back : goal.returns-in-Back
returns-in-Back c = taped_same (back_told _ _ _ _ c.in-Back.is) (taped_none _)

pub returns-in-Nothing : goal.returns-in-Nothing
returns-in-Nothing c = taped_same (nothing_told _ _ _ _ c.in-Nothing.is) (taped_none _)
