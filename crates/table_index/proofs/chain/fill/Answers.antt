use Rattle.std.proofs.Common.{◌+◌, ◌-◌, arith, length-take-le, drop, length-drop}
use Rattle.table_index.proofs.laws.Chain.{filled_replicate}
use Rattle.table_index.proofs.chain.fill.Goals as goal

pub returns : goal.returns
returns c =
    let a = c.args in
    let l = length-take-le (a.base + a.n - a.base) (drop a.base a.ix.now) (omega (arith, length-drop a.base a.ix.now)) in
    filled_replicate _ _ _ _ _ _ c.requires (omega arith) (rw l at (c.fill.ensures.after (λ y e. e)))
