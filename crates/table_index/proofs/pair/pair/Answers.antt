use mathlib.Core.Path.{◌≡◌, refl}
use native.Mathlib.Omega.{arith}
use Rattle.table_index.proofs.laws.Pair.{pairing_more, apart_paired}
use Rattle.table_index.proofs.laws.Chain.{apart_none}
use Rattle.table_index.proofs.pair.pair.Goals as goal

pub loop-i-init : goal.loop-i-init
loop-i-init c = (c.requires.5, apart_none _ _ _ _ _)

pub pair_one-requires : goal.pair_one-requires
pair_one-requires c = let l = c.loop-i in let h = l.invariant.1.long in let o = c.requires.4 l.i (omega arith) in (omega arith, omega arith, omega arith, omega arith)

pub loop-i-preserved : goal.loop-i-preserved
loop-i-preserved c = let l = c.loop-i in let h = l.invariant.1.long in let o = c.requires.4 l.i (omega arith) in let q = c.pair_one.ensures in (rw q (pairing_more _ _ _ _ _ _ _ _ _ _ _ refl o (omega arith) (omega arith) (omega arith) l.invariant.0), rw q (apart_paired _ _ _ _ _ _ _ _ _ _ _ refl o (omega arith) (omega arith) (omega arith) l.invariant.0 _ _ (omega arith) l.invariant.1))

pub returns : goal.returns
returns c = let l = c.loop-i in let e : l.i ≡ c.args.side.n = omega arith in (λ k u. l.invariant.0.known k (omega arith), l.invariant.1)
