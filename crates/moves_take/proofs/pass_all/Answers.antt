-- `pass_all` meets its contract. The invariant: the associated inputs passed are sampled, and their values passed on.
use Rattle.moves_take.proofs.Turns.{passed_end, pass_idle, voiced}
use Rattle.table_index.proofs.laws.Leads.{leads_start, leads_more}
use Rattle.table_index.proofs.laws.Walk.{walk_given, walk_ended}
use mathlib.Core.Path.{refl}
use native.Mathlib.Omega.{arith}
use Rattle.moves_take.proofs.pass_all.Goals as goal

pub loop-j-init : goal.loop-j-init
loop-j-init c = let l = c.associations_of-j-items.ensures in rw c.into_iter-j-iterator.ensures.into_iter_gives (l.goes, leads_start l.leads _ _ (λ k q x. pass_idle _ _ _ k q x) refl, refl)

pub pass_on-requires : goal.pass_on-requires
pass_on-requires c = let w = walk_given _ _ _ _ _ _ c.loop-j.invariant.0 c.in-Some.ensures.steps in rw w.stood (w.below, voiced _ _ _ _ w.met)

pub loop-j-preserved : goal.loop-j-preserved
loop-j-preserved c =
    let w = walk_given _ _ _ _ _ _ c.loop-j.invariant.0 c.in-Some.ensures.steps in
    (w.goes, leads_more w.leads _ _ _ _ (λ k q x. pass_idle _ _ _ k q x) refl c.loop-j.invariant.1 (rw w.stood at c.pass_on.ensures), omega (arith, c.loop-j.invariant.2))

pub returns : goal.returns
returns c = passed_end _ _ _ _ _ _ c.args.ix.now.net.good c.loop-j.invariant.1 (walk_ended _ _ _ _ _ _ c.loop-j.invariant.0 c.in-None.ensures.steps)
