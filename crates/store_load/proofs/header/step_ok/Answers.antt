-- `step_ok` meets its contract: an action that was found is one of the table's.
use Rattle.store_words.proofs.laws.Found.{action_in}
use Rattle.store_load.proofs.header.step_ok.Goals as goal

pub action_frame-requires : goal.action_frame-requires
action_frame-requires c = action_in _ _ _ _ _ c.action_of.ensures c.in-Some.is
