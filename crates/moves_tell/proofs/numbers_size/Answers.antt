-- `numbers_size` meets its contract: by what comes next.
use mathlib.Core.Path.{◌∙◌}
use Rattle.rules_moves.proofs.laws.Next.{ready_transition, ready_action}
use Rattle.moves_tell.proofs.laws.Telling.{is_ready}
use Rattle.moves_tell.proofs.laws.Most.{take_bytes, change_bytes, idle_bytes, step_bytes, end_bytes, back_bytes, nothing_bytes}
use Rattle.moves_tell.proofs.numbers_size.Goals as goal

pub change_size-requires : goal.change_size-requires
change_size-requires c = ready_transition _ _ (is_ready _ _ _ _ _ _ c.args.turn.telling) _ c.in-Change.is

pub end_size-requires : goal.end_size-requires
end_size-requires c = ready_action _ _ (is_ready _ _ _ _ _ _ c.args.turn.telling) _ c.in-End.is

pub returns-in-Take : goal.returns-in-Take
returns-in-Take c = take_bytes _ _ _ _ _ _ c.args.turn.telling _ c.in-Take.is

pub returns-in-Change : goal.returns-in-Change
returns-in-Change c = c.change_size.ensures ∙ change_bytes _ _ _ _ _ _ c.args.turn.telling _ c.in-Change.is

pub returns-in-Idle : goal.returns-in-Idle
returns-in-Idle c = idle_bytes _ _ _ _ _ _ c.args.turn.telling c.in-Idle.is

pub returns-in-Step : goal.returns-in-Step
returns-in-Step c = step_bytes _ _ _ _ _ _ c.args.turn.telling _ c.in-Step.is

pub returns-in-End : goal.returns-in-End
returns-in-End c = c.end_size.ensures ∙ end_bytes _ _ _ _ _ _ c.args.turn.telling _ c.in-End.is

pub returns-in-Back : goal.returns-in-Back
returns-in-Back c = back_bytes _ _ _ _ _ _ c.args.turn.telling c.in-Back.is

pub returns-in-Nothing : goal.returns-in-Nothing
returns-in-Nothing c = nothing_bytes _ _ _ _ _ _ c.args.turn.telling c.in-Nothing.is
