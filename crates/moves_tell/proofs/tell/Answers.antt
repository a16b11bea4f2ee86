-- `tell` meets its contract: by what comes next.
use native.Mathlib.Omega.{arith}
use mathlib.Core.Path.{sym}
use Rattle.rules_moves.proofs.laws.Next.{ready_input, ready_transition, ready_step, ready_action}
use Rattle.moves_tell.proofs.laws.Told.{room_same}
use Rattle.moves_tell.proofs.laws.Taped.{taped_none, taped_same}
use Rattle.moves_tell.proofs.laws.Telling.{is_ready, change_in, idle_in, take_all, change_all, idle_all, step_all, end_all, back_all, nothing_all}
use Rattle.moves_tell.proofs.tell.Goals as goal

pub tell_take-requires : goal.tell_take-requires
tell_take-requires c = (c.args.turn.telling.traceable, ready_input _ _ (is_ready _ _ _ _ _ _ c.args.turn.telling) _ c.in-Take.is, room_same (sym (take_all _ _ _ _ _ _ c.args.turn.telling _ c.in-Take.is)) c.requires, c.args.turn.telling.formed.parts.long)

pub tell_change-requires : goal.tell_change-requires
tell_change-requires c = (ready_transition _ _ (is_ready _ _ _ _ _ _ c.args.turn.telling) _ c.in-Change.is, change_in _ _ _ _ _ _ c.args.turn.telling _ c.in-Change.is, room_same (sym (change_all _ _ _ _ _ _ c.args.turn.telling _ c.in-Change.is)) c.requires)

pub tell_idle-requires : goal.tell_idle-requires
tell_idle-requires c = (idle_in _ _ _ _ _ _ c.args.turn.telling c.in-Idle.is, room_same (sym (idle_all _ _ _ _ _ _ c.args.turn.telling c.in-Idle.is)) c.requires)

pub tell_step-requires : goal.tell_step-requires
tell_step-requires c = (ready_step _ _ (is_ready _ _ _ _ _ _ c.args.turn.telling) _ c.in-Step.is, (let h = c.args.turn.telling.in_time in let q = c.since.ensures.1 in omega arith), room_same (sym (step_all _ _ _ _ _ _ c.args.turn.telling _ c.since.ensures.0 c.in-Step.is)) c.requires)

pub tell_end-requires : goal.tell_end-requires
tell_end-requires c = (ready_action _ _ (is_ready _ _ _ _ _ _ c.args.turn.telling) _ c.in-End.is, room_same (sym (end_all _ _ _ _ _ _ c.args.turn.telling _ c.in-End.is)) c.requires)

pub returns-in-Take : goal.returns-in-Take
returns-in-Take c = taped_same (take_all _ _ _ _ _ _ c.args.turn.telling _ c.in-Take.is) c.tell_take.ensures

pub returns-in-Change : goal.returns-in-Change
returns-in-Change c = taped_same (change_all _ _ _ _ _ _ c.args.turn.telling _ c.in-Change.is) c.tell_change.ensures

pub returns-in-Idle : goal.returns-in-Idle
returns-in-Idle c = taped_same (idle_all _ _ _ _ _ _ c.args.turn.telling c.in-Idle.is) c.tell_idle.ensures

pub returns-in-Step : goal.returns-in-Step
returns-in-Step c = taped_same (step_all _ _ _ _ _ _ c.args.turn.telling _ c.since.ensures.0 c.in-Step.is) c.tell_step.ensures

pub returns-in-End : goal.returns-in-End
returns-in-End c = taped_same (end_all _ _ _ _ _ _ c.args.turn.telling _ c.in-End.is) c.tell_end.ensures

pub returns-in-Back : goal.returns-in-Back
returns-in-Back c = taped_same (back_all _ _ _ _ _ _ c.args.turn.telling c.in-Back.is) (taped_none _)

pub returns-in-Nothing : goal.returns-in-Nothing
returns-in-Nothing c = taped_same (nothing_all _ _ _ _ _ _ c.args.turn.telling c.in-Nothing.is) (taped_none _)
