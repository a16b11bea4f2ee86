-- `parts::tally_parts` meets its contract. The loop's invariant: m counts the frames below f by their part's key (`Tallied`).
use Rattle.rules_walks.proofs.laws.Tally.{tallied_more, tallied_small}
use mathlib.Core.Path.{◌≡◌, sym, ◌∙◌}
use native.Mathlib.Omega.{arith}
use Rattle.table_network.proofs.parts.tally_parts.Goals as goal

pub plus-requires : goal.plus-requires
plus-requires c = let h = tallied_small _ _ _ _ c.part_key.result c.loop-f.invariant in omega arith

pub loop-f-preserved : goal.loop-f-preserved
loop-f-preserved c = rw (c.plus.ensures, c.part_key.ensures) (tallied_more _ _ _ _ c.loop-f.invariant)

pub shape_of-m : goal.shape_of-m
shape_of-m c = c.loop-f.invariant.long ∙ sym c.requires.3.long

pub returns : goal.returns
returns c = let e : c.loop-f.f ≡ c.args.hi = omega arith in rw e at c.loop-f.invariant
