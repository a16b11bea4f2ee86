-- `counts` meets its contract. The invariant: the frames passed are tallied by their kind.
use Rattle.rules_walks.proofs.laws.Tally.{tallied_none, tallied_more, tallied_small}
use native.Mathlib.Omega.{arith}
use Rattle.table_frames.proofs.tally.counts.Goals as goal

pub loop-f-init : goal.loop-f-init
loop-f-init c = tallied_none _ _

pub plus-requires : goal.plus-requires
plus-requires c = let h = tallied_small _ _ _ _ c.kind.result c.loop-f.invariant in omega arith

pub loop-f-preserved : goal.loop-f-preserved
loop-f-preserved c = rw (c.plus.ensures, c.kind.ensures.0) (tallied_more _ _ _ _ c.loop-f.invariant)
