-- `shapes::shapes_end` meets its contract. The loop's invariant: every frame below f keeps the rule. An element's id is its frame (`shape_element`),
-- and below 64 (`element_few`), because the frames have their form.
use Rattle.rules_walks.proofs.laws.All.{all_more}
use Rattle.rules_walks.proofs.laws.Held.{held_stop}
use Rattle.rules_walks.proofs.laws.Tally.{tallied_none}
use Rattle.table_network.proofs.laws.Known.{stretch_start, stretch_end}
use Rattle.table_network.proofs.laws.Parts.{element_few, shape_element, shape_other}
use mathlib.Core.Path.{◌≡◌, sym, ◌∙◌}
use native.Mathlib.Omega.{arith}
use Rattle.table_network.proofs.shapes.shapes_end.Goals as goal

pub count_parts-requires : goal.count_parts-requires
count_parts-requires c = let w = c.args.front.now.known in (w.few, c.requires, tallied_none _ _)

pub loop-f-init : goal.loop-f-init
loop-f-init c =
    let s = c.args.front.now in
    let w = c.row-lo.ensures.stretch in
    (w, stretch_start s.kinds.table.now _ 1 s.n _ _ (shape_other s.kinds.table.now) w)

pub invariant_of-element : goal.invariant_of-element
invariant_of-element c =
    let s = c.args.front.now in
    let l = c.loop-f in
    let w = l.invariant.0 in
    let h = w.within in
    record { few = element_few s.kinds.table.now s.n l.f s.known.stretches.form (omega arith) (w.inside l.f (omega arith) c.loop-f-test.true); tallied = c.count_parts.ensures }

pub returns-then-not-shape_as : goal.returns-then-not-shape_as
returns-then-not-shape_as c =
    let s = c.args.front.now in
    let l = c.loop-f in
    let w = l.invariant.0 in
    let h = w.within in
    let k = w.inside l.f (omega arith) c.loop-f-test.true in (
      held_stop _ _ l.f (omega arith) l.invariant.1
          (shape_element s.kinds.table.now s.n l.f s.known.stretches.form (omega arith) k ∙ rw (← c.flag.ensures.0) (sym c.shape_as.ensures ∙ c.if-not-shape_as.true)),
      omega arith,
    )

pub loop-f-preserved : goal.loop-f-preserved
loop-f-preserved c =
    let s = c.args.front.now in
    let l = c.loop-f in
    let w = l.invariant.0 in
    let h = w.within in
    let k = w.inside l.f (omega arith) c.loop-f-test.true in (
      w,
      all_more _ l.f l.invariant.1
          (shape_element s.kinds.table.now s.n l.f s.known.stretches.form (omega arith) k ∙ rw (← c.flag.ensures.0) (sym c.shape_as.ensures ∙ c.if-not-shape_as.false)),
    )

pub returns : goal.returns
returns c =
    let s = c.args.front.now in
    let l = c.loop-f in
    let e : l.f ≡ c.row-lo.result.1 = omega arith in
    (stretch_end s.kinds.table.now _ 1 s.n _ _ (shape_other s.kinds.table.now) l.invariant.0 (rw e at l.invariant.1), omega arith)
