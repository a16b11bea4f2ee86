-- `Fresh::window_end` meets its contract. The loop's invariant: the set has the keys of the frames of the kind below f (`Marked`),
-- and every frame below f keeps the rule in this window.
use Rattle.rules_walks.proofs.laws.All.{all_more}
use Rattle.rules_walks.proofs.laws.Held.{held_stop}
use Rattle.numbers_bits.proofs.laws.Marked.{marked_from}
use Rattle.table_frames.specs.Kind.{kind_number}
use Rattle.table_network.specs.Keys.{keyed}
use Rattle.table_network.proofs.laws.Alike.{window_other, keyed_other}
use Rattle.table_network.proofs.laws.Known.{stretch_start, stretch_end}
use borrow.Author.Tests.{not-true, not-false}
use mathlib.Core.Path.{◌≡◌, refl, sym, ◌∙◌}
use native.Mathlib.Omega.{arith}
use Rattle.table_network.proofs.fresh.Fresh.window_end.Goals as goal

pub loop-f-init : goal.loop-f-init
loop-f-init c =
    let a = c.args in
    let s = a.self.now in
    let T = s.front.kinds.table.now in
    let k = kind_number s.kind in
    let w = rw (c.first.ensures.0, c.first.ensures.1) at c.row-lo.ensures.stretch in (
      w,
      marked_from (keyed k T s.ys a.b) _ _ _ refl c.clear.ensures.1 (λ i g l. keyed_other k T s.ys a.n a.b g (w.before g l) i),
      stretch_start T _ k a.n _ _ (window_other k T s.ys a.n a.b _) w,
    )

pub repeats-requires : goal.repeats-requires
repeats-requires c =
    let l = c.loop-f in
    let w = l.invariant.0 in
    let h = w.within in
    (omega arith, w.inside l.f l.auto.f c.loop-f-test.true, rw l.invariant.1.long l.invariant.1)

pub returns-then-repeats : goal.returns-then-repeats
returns-then-repeats c =
    let l = c.loop-f in
    let h = l.invariant.0.within in
    let q = rw (l.invariant.1.long, c.clear.ensures.0) at c.repeats.ensures.0 in
    (held_stop _ _ l.f (omega arith) (rw c.clear.ensures.0 at l.invariant.2) (not-true _ (sym q ∙ c.if-repeats.true)), omega arith)

pub loop-f-preserved : goal.loop-f-preserved
loop-f-preserved c =
    let l = c.loop-f in
    let q = rw l.invariant.1.long at c.repeats.ensures.0 in
    (l.invariant.0, rw l.invariant.1.long at c.repeats.ensures.1, all_more _ l.f l.invariant.2 (not-false _ (sym q ∙ c.if-repeats.false)))

pub returns : goal.returns
returns c =
    let a = c.args in
    let s = a.self.now in
    let T = s.front.kinds.table.now in
    let k = kind_number s.kind in
    let l = c.loop-f in
    let e : l.f ≡ c.row-lo.result.1 = omega (arith, l.invariant.0.rise) in
    (stretch_end T _ k a.n _ _ (window_other k T s.ys a.n a.b _) l.invariant.0 (rw (e, c.clear.ensures.0) at l.invariant.2), omega arith)
