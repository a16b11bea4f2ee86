-- `associates` meets its contract. The invariant: none of the associations passed joins the variable.
use Rattle.table_index.proofs.laws.Walk.{walk_given, walk_ended}
use Rattle.moves_tell.proofs.laws.Taking.{seek_first, seek_hit, seek_more, seek_end}
use Rattle.moves_tell.proofs.take.associates.Goals as goal

pub loop-j-init : goal.loop-j-init
loop-j-init c = let l = c.associations_of-j-items.ensures in rw c.into_iter-j-iterator.ensures.into_iter_gives (l.goes, seek_first _ _ _ _ l.leads)

pub association_frame-requires : goal.association_frame-requires
association_frame-requires c = let w = walk_given _ _ _ _ _ _ c.loop-j.invariant.0 c.in-Some.ensures.steps in rw w.stood w.below

pub loop-j-preserved : goal.loop-j-preserved
loop-j-preserved c =
    let w = walk_given _ _ _ _ _ _ c.loop-j.invariant.0 c.in-Some.ensures.steps in
    (w.goes, seek_more _ _ _ _ _ w.met (rw w.stood at c.association_frame.ensures.is) c.field.ensures.0 c.if-field-v.false w.leads c.loop-j.invariant.1)

pub returns-then-field-v : goal.returns-then-field-v
returns-then-field-v c =
    let w = walk_given _ _ _ _ _ _ c.loop-j.invariant.0 c.in-Some.ensures.steps in
    seek_hit _ _ _ _ _ w.met (rw w.stood at c.association_frame.ensures.is) c.field.ensures.0 w.below c.if-field-v.true

pub returns : goal.returns
returns c = seek_end _ _ _ _ (walk_ended _ _ _ _ _ _ c.loop-j.invariant.0 c.in-None.ensures.steps) c.loop-j.invariant.1
