-- `put_places` meets its contract. The invariant: the frames passed stand where they belong, and `next` tells where the next of each kind belongs.
use Rattle.table_frames.proofs.laws.Placed.{slot_in, placed_none, placed_hit, placed_miss, nexts_none, nexts_hit, nexts_miss}
use mathlib.Core.Path.{sym}
use native.Mathlib.Omega.{arith}
use Rattle.table_frames.proofs.kinds.Kinds.put_places.Goals as goal
use Rattle.table_frames.proofs.kinds.Kinds.put_places.Goals.{then-k-lt12, else-k-lt12}

pub loop-f-init : goal.loop-f-init
loop-f-init c = (nexts_none _ _ c.args.self.now.starting, placed_none _ _)

pub offset_bounds-places-next : goal.offset_bounds-places-next
offset_bounds-places-next c = let e = c.loop-f.invariant.0.at c.kind-k.result c.if-k-lt12.true in omega (arith, e, slot_in c.args.self.now.table.now c.loop-f.f c.kind-k.result c.loop-f-test.true (sym c.kind-k.ensures.0), c.loop-f.auto.places, c.requires.1)

pub bounds-places-next : goal.bounds-places-next
bounds-places-next c = let e = c.loop-f.invariant.0.at c.kind-k.result c.if-k-lt12.true in omega (arith, e, slot_in c.args.self.now.table.now c.loop-f.f c.kind-k.result c.loop-f-test.true (sym c.kind-k.ensures.0), c.loop-f.auto.places, c.requires.1)

pub overflow_add-next : goal.overflow_add-next
overflow_add-next c = let e = c.loop-f.invariant.0.at c.kind-k.result c.if-k-lt12.true in omega (arith, e, slot_in c.args.self.now.table.now c.loop-f.f c.kind-k.result c.loop-f-test.true (sym c.kind-k.ensures.0), c.requires.0)

pub loop-f-preserved : goal.loop-f-preserved
loop-f-preserved c =
    let l = c.loop-f in
    let e = c.kind-k.ensures.0 in
    elim c.if-k-lt12.branch [
      | then-k-lt12 w ↦ (rw w.next-is (nexts_hit _ _ _ _ e w.if-k-lt12.true l.invariant.0), rw w.places-is (placed_hit _ _ _ _ _ c.loop-f-test.true (omega (arith, c.requires.1, l.auto.places)) e (l.invariant.0.at _ w.if-k-lt12.true) l.invariant.1))
      | else-k-lt12 w ↦ (rw w.next-is (nexts_miss _ _ _ _ e w.if-k-lt12.false l.invariant.0), rw w.places-is (placed_miss _ _ _ _ e w.if-k-lt12.false l.invariant.1))
    ]
