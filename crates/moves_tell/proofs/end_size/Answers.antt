-- `end_size` meets its contract.
use Rattle.moves_tell.proofs.Telling.{end_one, end_both}
use Rattle.moves_tell.proofs.end_size.Goals as goal

pub returns-then-field-eq0 : goal.returns-then-field-eq0
returns-then-field-eq0 c = end_one _ c.args.net.now.shape _ c.action_frame.ensures.is c.field.ensures.0 c.if-field-eq0.true

pub returns : goal.returns
returns c = end_both _ c.args.net.now.shape _ c.action_frame.ensures.is c.field.ensures.0 c.if-field-eq0.false
