-- `Front::row` meets its contract: where a kind begins and the next one does, its frames stand (`stretch`).
use Rattle.table_network.proofs.laws.Known.{stretch}
use Rattle.table_network.proofs.front.Front.row.Goals as goal

pub returns : goal.returns
returns c =
    let s = c.args.self.now in
    let k = c.number-k.ensures in
    rw (← k.0) (record { stretch = stretch s.kinds.table.now s.from.now c.number-k.result s.n _ _ k.1 s.known.stretches c.min.ensures c.min-2.ensures; end = c.min-2.ensures })
