-- `step_outcome` meets its contract: what was read, and what the operation made of it.
use Rattle.moves_next.proofs.Turns.{step_told}
use Rattle.moves_next.proofs.act.step_outcome.Goals as goal

pub returns : goal.returns
returns c = step_told _ _ _ _ _ c.field.ensures.0 c.value_of-b.ensures c.field-2.ensures.0 c.value_of-c.ensures c.flag.ensures.0 c.outcome_words.ensures
