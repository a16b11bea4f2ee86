-- `first_size` meets its contract: by what comes next.
use native.Mathlib.Omega.{arith}
use Rattle.rules_moves.proofs.laws.Next.{ready_input, ready_transition, ready_step, ready_action}
use Rattle.moves_tell.proofs.laws.Sized.{sized_none, sized_one, sized_same}
use Rattle.moves_tell.proofs.laws.Telling.{is_ready, take_all, change_all, idle_all, step_all, end_all, back_all, nothing_all}
use Rattle.moves_tell.proofs.sizes.first_size.Goals as goal

pub take_size-requires : goal.take_size-requires
take_size-requires c = (c.args.turn.telling.traceable, ready_input _ _ (is_ready _ _ _ _ _ _ c.args.turn.telling) _ c.in-Take.is, c.args.turn.telling.formed.parts.long)

pub transition_size-requires : goal.transition_size-requires
transition_size-requires c = ready_transition _ _ (is_ready _ _ _ _ _ _ c.args.turn.telling) _ c.in-Change.is

pub step_size-requires : goal.step_size-requires
step_size-requires c = (ready_step _ _ (is_ready _ _ _ _ _ _ c.args.turn.telling) _ c.in-Step.is, (let h = c.args.turn.telling.in_time in let q = c.since.ensures.1 in omega arith))

pub event_size-requires : goal.event_size-requires
event_size-requires c = ready_action _ _ (is_ready _ _ _ _ _ _ c.args.turn.telling) _ c.in-End.is

pub returns-in-Take : goal.returns-in-Take
returns-in-Take c = sized_same (take_all _ _ _ _ _ _ c.args.turn.telling _ c.in-Take.is) c.take_size.ensures

pub returns-in-Change : goal.returns-in-Change
returns-in-Change c = sized_same (change_all _ _ _ _ _ _ c.args.turn.telling _ c.in-Change.is) c.transition_size.ensures

pub returns-in-Idle : goal.returns-in-Idle
returns-in-Idle c = sized_same (idle_all _ _ _ _ _ _ c.args.turn.telling c.in-Idle.is) (sized_one _)

pub returns-in-Step : goal.returns-in-Step
returns-in-Step c = sized_same (step_all _ _ _ _ _ _ c.args.turn.telling _ c.since.ensures.0 c.in-Step.is) c.step_size.ensures

pub returns-in-End : goal.returns-in-End
returns-in-End c = sized_same (end_all _ _ _ _ _ _ c.args.turn.telling _ c.in-End.is) c.event_size.ensures

pub returns-in-Back : goal.returns-in-Back
returns-in-Back c = sized_same (back_all _ _ _ _ _ _ c.args.turn.telling c.in-Back.is) sized_none

pub returns-in-Nothing : goal.returns-in-Nothing
returns-in-Nothing c = sized_same (nothing_all _ _ _ _ _ _ c.args.turn.telling c.in-Nothing.is) sized_none
