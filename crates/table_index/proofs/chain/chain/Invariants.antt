use Prim.Native.Nat.{◌+◌}
use Rattle.table_index.specs.Chain.{owner_at, Chained, Apart}
use Rattle.table_index.proofs.chain.chain.Given as goal

abbrev pub invariant-loop-j : goal.invariant-loop-j
invariant-loop-j l =
    let g = l.group in
    Chained (owner_at l.t g.first g.w) g.first g.n g.base g.owners l.j l.ix × Apart g.first (g.first + g.n) g.base (g.base + g.owners) l.initial.ix l.ix
