-- `Front::first` meets its contract: what is known of the first n frames is known of fewer (`known_less`).
use Rattle.table_network.proofs.laws.Known.{known_less}
use Rattle.table_network.proofs.front.Front.first.Goals as goal

pub invariant_of-result : goal.invariant_of-result
invariant_of-result c =
    let s = c.args.self.now in
    record { known = known_less s.kinds.table.now _ _ s.n _ c.requires s.known }
