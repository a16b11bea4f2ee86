-- `network` meets its contract: an accepted table is good to run.
use Rattle.rules_calls.proofs.laws.Checked.{ready}
use Rattle.calls.proofs.network.Goals as goal

pub invariant_of-result : goal.invariant_of-result
invariant_of-result c = record { good = ready _ c.check.ensures.0 c.in_ok-shape.was }
