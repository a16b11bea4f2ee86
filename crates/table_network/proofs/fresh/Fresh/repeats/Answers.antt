-- `Fresh::repeats` meets its contract. A key in the window tells by `told_in`, and is added by `marked_in`;
-- a frame whose key is not in it leaves the set as it is.
use Rattle.table_network.proofs.laws.Alike.{told_low, marked_low, told_in, marked_in, told_high, marked_high}
use Rattle.table_frames.specs.Kind.{kind_number}
use mathlib.Core.Path.{◌∙◌}
use native.Mathlib.Omega.{arith}
use Prim.Native.Nat.{◌<◌}
use Rattle.table_network.proofs.fresh.Fresh.repeats.Goals as goal

pub returns-in-Some : goal.returns-in-Some
returns-in-Some c =
    let a = c.args in
    let s = a.self.now in
    let T = s.front.kinds.table.now in
    let k = kind_number s.kind in
    let p = c.requires in
    let q = c.in-Some.ensures in
    let l = rw q.1 at c.if-i-set.true in (
      rw q.1 at c.mark.ensures.0 ∙ told_in k T s.ys s.front.n a.b a.f _ a.set.now p.1 p.0 c.key.ensures q.0 l s.paired.telling p.2,
      rw (c.mark.ensures.1, q.1) (marked_in k T s.ys s.front.n a.b a.f _ a.set.now p.1 p.0 c.key.ensures q.0 l p.2),
    )

pub returns-in_default : goal.returns-in_default
returns-in_default c =
    let a = c.args in
    let s = a.self.now in
    let T = s.front.kinds.table.now in
    let k = kind_number s.kind in
    let p = c.requires in
    let q = c.in-Some.ensures in
    let l = rw q.1 at c.if-i-set.false in (
      told_high k T s.ys s.front.n a.b a.f _ a.set.now p.1 p.0 c.key.ensures q.0 l,
      marked_high k T s.ys s.front.n a.b a.f _ a.set.now p.1 p.0 c.key.ensures q.0 l p.2,
    )

pub returns-in_default-2 : goal.returns-in_default-2
returns-in_default-2 c =
    let a = c.args in
    let s = a.self.now in
    let T = s.front.kinds.table.now in
    let k = kind_number s.kind in
    let p = c.requires in
    let e = c.in_default.ensures in
    let l : c.key.result < a.b = omega (arith, e) in (
      told_low k T s.ys s.front.n a.b a.f _ a.set.now p.1 p.0 c.key.ensures l,
      marked_low k T s.ys s.front.n a.b a.f _ a.set.now p.1 p.0 c.key.ensures l p.2,
    )
