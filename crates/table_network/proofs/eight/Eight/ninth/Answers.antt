-- `Eight::ninth` meets its contract. The count of an event in the window tells by `eight_in`, and grows by `counted_in`;
-- an association of an event that is not in it leaves the counts as they are.
use Rattle.table_network.proofs.laws.Counted.{counted_small, eight_low, counted_low, eight_in, counted_in, eight_high, counted_high}
use native.Mathlib.Omega.{arith}
use Prim.Native.Nat.{◌<◌}
use Rattle.table_network.proofs.eight.Eight.ninth.Goals as goal

pub one_more-requires : goal.one_more-requires
one_more-requires c =
    let a = c.args in
    let w = a.self.now.front.known in
    let h = counted_small _ a.counts.now a.f c.in-Some.i c.if-i-counts.true c.requires.2 in
    (c.if-i-counts.true, omega (arith, w.few, w.stretches.within))

pub returns-in-Some : goal.returns-in-Some
returns-in-Some c =
    let a = c.args in
    let s = a.self.now in
    let T = s.front.kinds.table.now in
    let p = c.requires in
    let q = c.in-Some.ensures in (
      eight_in T s.inputs s.front.n a.b a.f _ a.counts.now p.1 p.0 c.slot.ensures q.0 (rw q.1 at c.if-i-counts.true) s.slotting p.2 (rw q.1 at c.one_more.ensures.0),
      rw (c.one_more.ensures.1, q.1) (counted_in T s.inputs s.front.n a.b a.f _ a.counts.now p.1 p.0 c.slot.ensures q.0 p.2),
    )

pub returns-in_default : goal.returns-in_default
returns-in_default c =
    let a = c.args in
    let s = a.self.now in
    let T = s.front.kinds.table.now in
    let p = c.requires in
    let q = c.in-Some.ensures in
    let l = rw q.1 at c.if-i-counts.false in (
      eight_high T s.inputs s.front.n a.b a.f _ a.counts.now p.1 p.0 c.slot.ensures q.0 l,
      counted_high T s.inputs s.front.n a.b a.f _ a.counts.now p.1 p.0 c.slot.ensures q.0 l p.2,
    )

pub returns-in_default-2 : goal.returns-in_default-2
returns-in_default-2 c =
    let a = c.args in
    let s = a.self.now in
    let T = s.front.kinds.table.now in
    let p = c.requires in
    let e = c.in_default.ensures in
    let l : c.slot.result < a.b = omega (arith, e) in (
      eight_low T s.inputs s.front.n a.b a.f _ a.counts.now p.1 p.0 c.slot.ensures l,
      counted_low T s.inputs s.front.n a.b a.f _ a.counts.now p.1 p.0 c.slot.ensures l p.2,
    )
