-- `tell_brought` meets its contract. The invariant: what the inputs passed bring is told; other variables bring nothing.
use mathlib.Core.Path.{ap, sym}
use Rattle.rules_traces.specs.Gather.{gather}
use Rattle.table_index.proofs.laws.Walk.{walk_given, walk_ended}
use Rattle.moves_tell.proofs.laws.Told.{room_more, room_same}
use Rattle.moves_tell.proofs.laws.Taped.{taped_first, taped_next, taped_same, taped_none}
use Rattle.moves_tell.proofs.laws.Brought.{not_brought}
use Rattle.moves_tell.proofs.take.tell_brought.Goals as goal

pub loop-v-init : goal.loop-v-init
loop-v-init c = let l = c.variables_of-v-items.ensures in rw c.into_iter-v-iterator.ensures.into_iter_gives (l.goes, taped_first _ (λ j e. not_brought _ _ c.requires.0 _ _ c.requires.1 _ _ j e) l.leads _)

pub brought-requires : goal.brought-requires
brought-requires c = let w = walk_given _ _ _ _ _ _ c.loop-v.invariant.0 c.in-Some.ensures.steps in (rw w.stood w.below, c.requires.3)

pub put-requires : goal.put-requires
put-requires c =
    let w = walk_given _ _ _ _ _ _ c.loop-v.invariant.0 c.in-Some.ensures.steps in
    let e = rw (w.stood, c.in-Some-brought.is) at c.brought.ensures in
    (e.1, room_same (sym e.0) (room_more _ _ _ _ c.loop-v.invariant.1.told _ w.below c.requires.2))

pub loop-v-preserved-in-Some-brought : goal.loop-v-preserved-in-Some-brought
loop-v-preserved-in-Some-brought c =
    let w = walk_given _ _ _ _ _ _ c.loop-v.invariant.0 c.in-Some.ensures.steps in
    let e = rw (w.stood, c.in-Some-brought.is) at c.brought.ensures in
    (w.goes, taped_next _ (λ j e. not_brought _ _ c.requires.0 _ _ c.requires.1 _ _ j e) _ _ w.leads c.loop-v.invariant.1 (taped_same e.0 c.put.ensures))

pub loop-v-preserved : goal.loop-v-preserved
loop-v-preserved c =
    let w = walk_given _ _ _ _ _ _ c.loop-v.invariant.0 c.in-Some.ensures.steps in
    let e = rw (w.stood, c.in_default.is) at c.brought.ensures in
    (w.goes, taped_next _ (λ j e. not_brought _ _ c.requires.0 _ _ c.requires.1 _ _ j e) _ _ w.leads c.loop-v.invariant.1 (taped_same e.0 (taped_none _)))

pub returns : goal.returns
returns c = taped_same (ap (gather _) (walk_ended _ _ _ _ _ _ c.loop-v.invariant.0 c.in-None.ensures.steps)) c.loop-v.invariant.1
