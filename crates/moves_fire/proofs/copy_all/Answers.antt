-- `copy_all` meets its contract. The invariant: the variables carried so far are copied, one by one, which is document 01's copy (`copies_one_by_one`).
use Rattle.moves_fire.proofs.laws.Copies.{copies_one_by_one}
use Rattle.moves_fire.proofs.laws.Carrying.{carried_idle, speaks_belongs}
use Rattle.table_index.proofs.laws.Leads.{leads_start, leads_more}
use Rattle.table_index.proofs.laws.Walk.{walk_given, walk_ended}
use Rattle.rules_walks.proofs.laws.Walk.{up_to_end}
use mathlib.Core.Path.{refl, sym, ◌∙◌}
use native.Mathlib.Omega.{arith}
use Rattle.moves_fire.proofs.copy_all.Goals as goal

pub loop-j-init : goal.loop-j-init
loop-j-init c = let l = c.associations_of-j-items.ensures in rw c.into_iter-j-iterator.ensures.into_iter_gives (l.goes, leads_start l.leads _ _ (λ i q x. carried_idle _ _ _ _ i c.args.ix.now.net.good c.requires q x) refl, refl)

pub carried_by-requires : goal.carried_by-requires
carried_by-requires c = let w = walk_given _ _ _ _ _ _ c.loop-j.invariant.0 c.in-Some.ensures.steps in rw w.stood (w.below, speaks_belongs _ _ _ _ _ c.requires ∙ w.met)

pub loop-j-preserved : goal.loop-j-preserved
loop-j-preserved c =
    let w = walk_given _ _ _ _ _ _ c.loop-j.invariant.0 c.in-Some.ensures.steps in
    (w.goes, leads_more w.leads _ _ _ _ (λ i q x. carried_idle _ _ _ _ i c.args.ix.now.net.good c.requires q x) refl c.loop-j.invariant.1 (rw (← w.stood, ← c.carried_by.ensures) c.copy_from.ensures), omega (arith, c.loop-j.invariant.2))

pub returns : goal.returns
returns c = up_to_end _ _ _ _ _ c.loop-j.invariant.1 (walk_ended _ _ _ _ _ _ c.loop-j.invariant.0 c.in-None.ensures.steps) ∙ sym (copies_one_by_one _ _ c.args.ix.now.indexed.lawful _ _)
