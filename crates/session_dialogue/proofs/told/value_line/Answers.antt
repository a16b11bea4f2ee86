-- `value_line` meets its contract: a value, or any other command.
use Rattle.session_dialogue.proofs.Telling.{took_is, value_by_lem, value_other}
use Rattle.session_dialogue.proofs.Buffers.{came_more}
use Rattle.session_dialogue.proofs.told.value_line.Goals as goal

pub returns-in_default : goal.returns-in_default
returns-in_default c = (λ vs w l. took_is (value_other _ _ vs _ _ _ _ _ c.line_command.ensures c.in_default.not-Value) (c.malformed.ensures.0 _ _ _), c.malformed.ensures.1)

pub returns : goal.returns
returns c = (λ vs w l. took_is (value_by_lem _ _ vs _ _ _ _ c.line_command.ensures c.in-Value.is) (c.got_value.ensures.0 _ (came_more vs _ _ _ _ w l)), c.got_value.ensures.1)
