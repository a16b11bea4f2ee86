-- `connect_all` meets its contract. The invariant: the event connections passed are marked, one by one.
use Rattle.store_words.proofs.laws.Small.{small}
use Rattle.moves_fire.proofs.laws.Carrying.{connect_idle}
use Rattle.moves_fire.proofs.Turns.{connect_take}
use Rattle.table_index.proofs.laws.Leads.{leads_start, leads_more}
use Rattle.table_index.proofs.laws.Walk.{walk_given, walk_ended}
use Rattle.rules_walks.proofs.laws.Walk.{up_to_end}
use mathlib.Core.Path.{refl}
use native.Mathlib.Omega.{arith}
use Rattle.moves_fire.proofs.connect_all.Goals as goal

pub loop-j-init : goal.loop-j-init
loop-j-init c = let l = c.connections_of-j-items.ensures in rw c.into_iter-j-iterator.ensures.into_iter_gives (l.goes, leads_start l.leads _ _ (λ i q x. connect_idle _ _ _ _ _ i q x) refl, refl)

pub connection_frame-f-requires : goal.connection_frame-f-requires
connection_frame-f-requires c = let w = walk_given _ _ _ _ _ _ c.loop-j.invariant.0 c.in-Some.ensures.steps in rw w.stood w.below

pub mark-requires : goal.mark-requires
mark-requires c = (small _ _ c.args.ix.now.net.good, omega arith)

pub loop-j-preserved : goal.loop-j-preserved
loop-j-preserved c =
    let w = walk_given _ _ _ _ _ _ c.loop-j.invariant.0 c.in-Some.ensures.steps in
    (w.goes, leads_more w.leads _ _ _ _ (λ i q x. connect_idle _ _ _ _ _ i q x) refl c.loop-j.invariant.1 (connect_take _ _ _ _ _ _ _ _ w.met (rw w.stood at c.connection_frame-f.ensures.is) c.field.ensures.0 c.mark.ensures), omega (arith, c.loop-j.invariant.2))

pub returns : goal.returns
returns c = up_to_end _ _ _ _ _ c.loop-j.invariant.1 (walk_ended _ _ _ _ _ _ c.loop-j.invariant.0 c.in-None.ensures.steps)
