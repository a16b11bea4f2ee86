-- `Eight::of` meets its contract: two associations are of one event exactly when it is the same among all (`events_told`).
use Rattle.std.proofs.Common.{arith}
use Rattle.table_network.proofs.laws.Counted.{events_told}
use Rattle.table_network.proofs.eight.Eight.of.Goals as goal

pub invariant_of-result : goal.invariant_of-result
invariant_of-result c =
    let s = c.args.front.now in
    let a = c.count-inputs.ensures in
    let b = c.count.ensures in
    record { few = (a.1, omega arith); slotting = events_told s.kinds.table.now _ _ _ s.n s.known a.0; all = omega arith }
