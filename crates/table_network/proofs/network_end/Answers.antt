-- `network_end` meets its contract by that of `rules_end`, with a set of either size.
use Rattle.table_network.proofs.laws.Known.{known}
use Rattle.table_network.proofs.network_end.Goals as goal

pub invariant_of-front : goal.invariant_of-front
invariant_of-front c =
    let p = c.requires in
    let s = c.args.kinds.now in
    record { known = known s.table.now _ _ c.args.m c.args.n s.starting p.0 p.1 p.2 p.3 p.4 p.5 }

pub invariant_of-front-else-kinds-le-SMALL : goal.invariant_of-front-else-kinds-le-SMALL
invariant_of-front-else-kinds-le-SMALL c =
    let p = c.requires in
    let s = c.args.kinds.now in
    record { known = known s.table.now _ _ c.args.m c.args.n s.starting p.0 p.1 p.2 p.3 p.4 p.5 }
