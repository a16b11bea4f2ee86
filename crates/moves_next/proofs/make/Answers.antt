-- `make` meets its contract: by what comes next.
use mathlib.Core.Path.{refl}
use native.Mathlib.Omega.{arith}
use Rattle.rules_moves.proofs.laws.Next.{answer_ready, ready_input, ready_transition, ready_step, ready_action}
use Rattle.moves_next.proofs.Turns.{untrue_fits, steps_few, end_action, actions_few, room_for, made_take, made_change, made_idle, made_step, made_end, made_back, made_nothing}
use Rattle.moves_next.proofs.make.Goals as goal

pub take_event-requires : goal.take_event-requires
take_event-requires c = (ready_input _ _ (answer_ready _ _ _ _ c.args.ix.now.net.good _ c.requires.1) _ c.in-Take.is, c.requires.2, room_for _ _ _ _ _ _ _ _ c.in-Take.is c.requires.3, c.requires.4)

pub change-requires : goal.change-requires
change-requires c = (ready_transition _ _ (answer_ready _ _ _ _ c.args.ix.now.net.good _ c.requires.1) _ c.in-Change.is, c.requires.0)

pub step-requires : goal.step-requires
step-requires c = (ready_step _ _ (answer_ready _ _ _ _ c.args.ix.now.net.good _ c.requires.1) _ c.in-Step.is, steps_few _ _ _ _ _ c.requires.1 c.args.ix.now.net.good _ c.in-Step.is, c.requires.2, c.requires.0)

pub overflow_add-result : goal.overflow_add-result
overflow_add-result c = let h = untrue_fits _ _ _ _ _ c.step.ensures.1 c.requires.5 in omega arith

pub end-requires : goal.end-requires
end-requires c = (ready_action _ _ (answer_ready _ _ _ _ c.args.ix.now.net.good _ c.requires.1) _ c.in-End.is, end_action _ _ _ _ _ c.requires.1 c.args.ix.now.net.good _ c.in-End.is, actions_few _ _ _ _ _ c.requires.1 c.args.ix.now.net.good _ c.in-End.is, c.requires.0)

pub returns-in-Take : goal.returns-in-Take
returns-in-Take c = made_take _ _ _ _ _ _ _ refl _ c.in-Take.is refl c.take_event.ensures

pub returns-in-Change : goal.returns-in-Change
returns-in-Change c = made_change _ _ _ _ _ _ _ refl refl c.requires.0 _ c.in-Change.is c.change.ensures

pub returns-in-Idle : goal.returns-in-Idle
returns-in-Idle c = made_idle _ _ _ _ _ _ _ refl refl c.in-Idle.is c.go_idle.ensures

pub returns-in-Step : goal.returns-in-Step
returns-in-Step c = made_step _ _ _ _ _ _ _ c.requires.0 _ c.in-Step.is c.step.ensures.0 refl refl c.step.ensures.1

pub returns-in-End : goal.returns-in-End
returns-in-End c = made_end _ _ _ _ _ _ _ refl refl c.requires.0 _ c.in-End.is c.end.ensures

pub returns-in-Back : goal.returns-in-Back
returns-in-Back c = made_back _ _ _ _ _ _ _ refl refl c.requires.0 c.in-Back.is c.put_charting.ensures

pub returns-in-Nothing : goal.returns-in-Nothing
returns-in-Nothing c = made_nothing _ _ _ _ _ _ _ refl refl c.in-Nothing.is refl
