-- `number_after` meets its contract: where the index leads from the k-th action there is the one after it, or none.
use Rattle.moves_chart.proofs.Turns.{after_one, after_missing}
use Rattle.moves_chart.proofs.number_after.Goals as goal

pub returns-then-next_action-actions : goal.returns-then-next_action-actions
returns-then-next_action-actions c = after_one _ _ _ _ _ c.requires.1 c.requires.0 c.actions.ensures c.next_action.ensures c.if-next_action-actions.true

pub returns-else-next_action-actions : goal.returns-else-next_action-actions
returns-else-next_action-actions c = after_missing _ _ _ _ _ c.requires.1 c.requires.0 c.actions.ensures c.next_action.ensures c.if-next_action-actions.false
