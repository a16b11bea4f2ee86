-- `result_of` meets its contract: what was read, and what the operation made of it.
use Rattle.moves_tell.proofs.Telling.{result_of_lem}
use Rattle.moves_tell.proofs.act.result_of.Goals as goal

pub returns : goal.returns
returns c = result_of_lem _ _ _ _ _ c.field.ensures.0 c.value_of-b.ensures c.field-2.ensures.0 c.value_of-c.ensures c.flag.ensures.0 c.operate_words.ensures
