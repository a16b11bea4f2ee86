use Rattle.rules_calls.specs.Calls.{value_count}
use Rattle.calls_run.proofs.Turns.{many_speak}
use Rattle.calls_run.proofs.calls.value_count.Goals as goal

pub returns : goal.returns
unfolding value_count
returns c = many_speak _ _ _ _ c.rank.ensures.0 c.associations.ensures
