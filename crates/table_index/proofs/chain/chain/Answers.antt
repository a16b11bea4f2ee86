use Prim.Native.Nat.{◌-◌, ◌+◌}
use mathlib.Core.Path.{◌≡◌}
use native.Mathlib.Omega.{arith}
use Rattle.table_index.proofs.laws.Chain.{chained_none, chained_link, apart_none, apart_linked, apart_filled}
use Rattle.table_index.proofs.chain.chain.Goals as goal

pub loop-j-init : goal.loop-j-init
loop-j-init c = (chained_none _ _ _ _ _ _ c.fill.ensures.filled, apart_none _ _ _ _ _)

pub link-requires : goal.link-requires
link-requires c = let l = c.loop-j in let h = l.invariant.1.long in let f = c.fill.ensures.long in let o = c.requires.6 (l.j - 1) (omega arith) in (omega arith, omega arith, omega arith, omega arith, omega arith, omega arith)

pub loop-j-preserved : goal.loop-j-preserved
loop-j-preserved c = let l = c.loop-j in let f = c.fill.ensures.long in let h = l.invariant.1.long in let e : l.j - 1 + 1 ≡ l.j = omega arith in let o = c.requires.6 (l.j - 1) (omega arith) in let q = c.link.ensures in (rw q (chained_link _ _ _ _ _ _ _ (omega arith) o (omega arith) (omega arith) (rw e l.invariant.0)), rw q (apart_linked _ _ _ _ _ _ _ _ _ _ (omega arith) (omega arith) (omega arith) (omega arith) l.invariant.1))

pub returns : goal.returns
returns c = let l = c.loop-j in let e : l.j ≡ 0 = omega arith in (rw e at l.invariant.0, apart_filled _ _ _ _ _ _ _ _ c.fill.ensures l.invariant.1)
