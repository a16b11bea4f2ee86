-- `change_size` meets its contract.
use Rattle.moves_tell.proofs.Telling.{change_none, change_some}
use Rattle.moves_tell.proofs.change_size.Goals as goal

pub returns-then-action_number-eq0 : goal.returns-then-action_number-eq0
returns-then-action_number-eq0 c = change_none _ _ _ c.transition_frame.ensures.is c.field-to.ensures.0 c.action_number.ensures c.if-action_number-eq0.true

pub returns : goal.returns
returns c = change_some _ _ _ c.transition_frame.ensures.is c.field-to.ensures.0 c.action_number.ensures c.if-action_number-eq0.false
