-- `Eight::window_end` meets its contract. The loop's invariant: the associations below f are counted by their events (`Counted`),
-- and every frame below f keeps the rule in this window.
use Rattle.rules_walks.proofs.laws.All.{all_more}
use Rattle.rules_walks.proofs.laws.Held.{held_stop}
use Rattle.table_network.specs.Keys.{slotted}
use Rattle.table_network.proofs.laws.Counted.{counted_from, eight_window_other, slotted_other}
use Rattle.table_network.proofs.laws.Known.{stretch_start, stretch_end}
use borrow.Author.Tests.{not-true, not-false}
use mathlib.Core.Path.{◌≡◌, refl, sym, ◌∙◌}
use native.Mathlib.Omega.{arith}
use borrow.Author.Rules.{rules}
use Rattle.table_network.proofs.eight.Eight.window_end.Goals as goal

pub loop-f-init : goal.loop-f-init
loop-f-init c =
    let a = c.args in
    let s = a.self.now in
    let T = s.front.kinds.table.now in
    let w = rw (c.first.ensures.0, c.first.ensures.1) at c.row-lo.ensures.stretch in (
      w,
      refl,
      counted_from (slotted T s.inputs a.b) _ _ c.clear.ensures.1 (λ i g l. slotted_other T s.inputs a.b g (w.before g l) i),
      stretch_start T _ 5 a.n _ _ (eight_window_other T s.inputs a.b _) w,
    )

pub ninth-requires : goal.ninth-requires
ninth-requires c =
    let l = c.loop-f in
    let w = l.invariant.0 in
    let h = w.within in
    (omega arith, w.inside l.f l.auto.f c.loop-f-test.true, l.invariant.2)

pub returns-then-ninth : goal.returns-then-ninth
returns-then-ninth c =
    let l = c.loop-f in
    let h = l.invariant.0.within in
    let q = rw (l.invariant.1, c.clear.ensures.0) at c.ninth.ensures.0 in
    (held_stop _ _ l.f (omega arith) (rw c.clear.ensures.0 at l.invariant.3) (not-true _ (sym q ∙ c.if-ninth.true)), omega arith)

pub loop-f-preserved : goal.loop-f-preserved
loop-f-preserved c =
    let l = c.loop-f in
    let q = rw l.invariant.1 at c.ninth.ensures.0 in
    (l.invariant.0, search rules, c.ninth.ensures.1, all_more _ l.f l.invariant.3 (not-false _ (sym q ∙ c.if-ninth.false)))

pub returns : goal.returns
returns c =
    let a = c.args in
    let s = a.self.now in
    let T = s.front.kinds.table.now in
    let l = c.loop-f in
    let e : l.f ≡ c.row-lo.result.1 = omega (arith, l.invariant.0.rise) in
    (stretch_end T _ 5 a.n _ _ (eight_window_other T s.inputs a.b _) l.invariant.0 (rw (e, c.clear.ensures.0) at l.invariant.3), omega arith)
