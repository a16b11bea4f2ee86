-- `sample_all` meets its contract. The invariant: the associated inputs passed are sampled.
use Rattle.moves_take.proofs.Turns.{sample_take, sample_idle, voiced}
use Rattle.table_index.proofs.laws.Leads.{leads_start, leads_more}
use Rattle.table_index.proofs.laws.Walk.{walk_given, walk_ended}
use Rattle.moves_take.proofs.laws.Known.{at_frame}
use Rattle.store_words.proofs.laws.Small.{small}
use Rattle.rules_walks.proofs.laws.Walk.{up_to_end}
use mathlib.Core.Path.{refl}
use native.Mathlib.Omega.{arith}
use Rattle.moves_take.proofs.sample_all.Goals as goal

pub loop-j-init : goal.loop-j-init
loop-j-init c = let l = c.associations_of-j-items.ensures in rw c.into_iter-j-iterator.ensures.into_iter_gives (l.goes, leads_start l.leads _ _ (λ k q x. sample_idle _ _ _ k q x) refl, refl)

pub association_frame-requires : goal.association_frame-requires
association_frame-requires c = let w = walk_given _ _ _ _ _ _ c.loop-j.invariant.0 c.in-Some.ensures.steps in rw w.stood w.below

pub sample-requires : goal.sample-requires
sample-requires c = (small _ _ c.args.ix.now.net.good, omega arith)

pub loop-j-preserved : goal.loop-j-preserved
loop-j-preserved c =
    let w = walk_given _ _ _ _ _ _ c.loop-j.invariant.0 c.in-Some.ensures.steps in
    (w.goes, leads_more w.leads _ _ _ _ (λ k q x. sample_idle _ _ _ k q x) refl c.loop-j.invariant.1 (sample_take _ _ _ _ _ _ (voiced _ _ _ _ w.met) (at_frame _ 1 (rw w.stood at c.association_frame.ensures.is) c.field-v.ensures.0) c.sample.ensures.0 c.sample.ensures.1), omega (arith, c.loop-j.invariant.2))

pub returns : goal.returns
returns c = up_to_end _ _ _ _ _ c.loop-j.invariant.1 (walk_ended _ _ _ _ _ _ c.loop-j.invariant.0 c.in-None.ensures.steps)
