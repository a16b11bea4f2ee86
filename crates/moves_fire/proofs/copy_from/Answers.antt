-- `copy_from` meets its contract. The invariant: the data connections passed have copied.
use Rattle.store_words.proofs.laws.Small.{small}
use Rattle.moves_fire.proofs.laws.Carrying.{copy_idle}
use Rattle.moves_fire.proofs.Turns.{copy_take}
use Rattle.table_index.proofs.laws.Owned.{any_owner}
use Rattle.table_index.proofs.laws.Leads.{leads_start, leads_more}
use Rattle.table_index.proofs.laws.Walk.{walk_given, walk_ended}
use Rattle.rules_walks.proofs.laws.Walk.{up_to_end}
use mathlib.Core.Path.{refl}
use native.Mathlib.Omega.{arith}
use Rattle.moves_fire.proofs.copy_from.Goals as goal

pub loop-j-init : goal.loop-j-init
loop-j-init c = let l = c.links_of-j-items.ensures in rw c.into_iter-j-iterator.ensures.into_iter_gives (l.goes, leads_start l.leads _ _ (λ i q x. copy_idle _ _ _ i q x) refl, refl)

pub link_frame-f-requires : goal.link_frame-f-requires
link_frame-f-requires c = let w = walk_given _ _ _ _ _ _ c.loop-j.invariant.0 c.in-Some.ensures.steps in rw w.stood w.below

pub value_of-x-requires : goal.value_of-x-requires
value_of-x-requires c =
    let w = walk_given _ _ _ _ _ _ c.loop-j.invariant.0 c.in-Some.ensures.steps in
    let e = any_owner _ _ _ _ w.met in
    let h = c.args.ix.now.net.good.link_source _ w.below in
    let f = c.args.ix.now.net.good.few_variables in
    (small _ _ c.args.ix.now.net.good, omega arith)

pub put_buffer-requires : goal.put_buffer-requires
put_buffer-requires c = (small _ _ c.args.ix.now.net.good, omega arith)

pub loop-j-preserved : goal.loop-j-preserved
loop-j-preserved c =
    let w = walk_given _ _ _ _ _ _ c.loop-j.invariant.0 c.in-Some.ensures.steps in
    (w.goes, leads_more w.leads _ _ _ _ (λ i q x. copy_idle _ _ _ i q x) refl c.loop-j.invariant.1 (copy_take _ _ _ _ _ _ w.met (rw w.stood at c.link_frame-f.ensures.is) c.value_of-x.ensures c.field.ensures.0 c.put_buffer.ensures), omega (arith, c.loop-j.invariant.2))

pub returns : goal.returns
returns c = up_to_end _ _ _ _ _ c.loop-j.invariant.1 (walk_ended _ _ _ _ _ _ c.loop-j.invariant.0 c.in-None.ensures.steps)
