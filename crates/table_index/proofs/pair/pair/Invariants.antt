use Prim.Native.Nat.{◌+◌}
use Rattle.table_index.specs.Chain.{Apart}
use Rattle.table_index.specs.Pair.{Pairing}
use Rattle.table_index.proofs.pair.pair.Given as goal

abbrev pub invariant-loop-i : goal.invariant-loop-i
invariant-loop-i l =
    let s = l.side in
    let o = l.other in
    Pairing l.t s.first s.flag o.first o.n o.flag l.heads l.partners l.i l.ix × Apart l.heads (l.heads + 64) l.partners (l.partners + s.n) l.initial.ix l.ix
