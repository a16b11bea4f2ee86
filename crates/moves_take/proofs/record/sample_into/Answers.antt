-- `sample_into` meets its contract. The invariant: the associated inputs passed are sampled, and their values written one after the other.
use Rattle.moves_take.proofs.Turns.{sample_take, sample_idle, voiced}
use Rattle.table_index.proofs.laws.Leads.{leads_start, leads_more}
use Rattle.table_index.proofs.laws.Walk.{walk_given, walk_ended}
use Rattle.moves_take.proofs.laws.Together.{sampled_value}
use Rattle.moves_take.proofs.Written.{place_first, written_first, value_written, value_place, value_fits, values_end}
use Rattle.rules_moves.specs.Record.{values}
use mathlib.Core.List.{[]}
use Rattle.moves_take.proofs.laws.Known.{at_frame}
use Rattle.store_words.proofs.laws.Small.{small}
use Rattle.rules_walks.proofs.laws.Walk.{up_to_end}
use mathlib.Core.Path.{refl}
use native.Mathlib.Omega.{arith}
use Rattle.moves_take.proofs.record.sample_into.Goals as goal

pub loop-j-init : goal.loop-j-init
loop-j-init c = let l = c.associations_of-j-items.ensures in rw c.into_iter-j-iterator.ensures.into_iter_gives (l.goes, leads_start l.leads _ _ (λ k q x. sample_idle _ _ _ k q x) refl, refl, place_first _ _ _ _ l.leads refl, written_first _ _ _ _ _ _ l.leads, refl)

pub association_frame-requires : goal.association_frame-requires
association_frame-requires c = let w = walk_given _ _ _ _ _ _ c.loop-j.invariant.0 c.in-Some.ensures.steps in rw w.stood w.below

pub sample-x-requires : goal.sample-x-requires
sample-x-requires c = (small _ _ c.args.ix.now.net.good, omega arith)

pub put_word-requires : goal.put_word-requires
put_word-requires c =
    let w = walk_given _ _ _ _ _ _ c.loop-j.invariant.0 c.in-Some.ensures.steps in
    let h = value_fits _ _ _ _ _ _ [] _ _ _ (voiced _ _ _ _ w.met) c.loop-j.invariant.3 c.loop-j.invariant.4 _ _ w.below c.requires in
    let q = c.loop-j.invariant.5 in
    omega arith

pub overflow_add-p : goal.overflow_add-p
overflow_add-p c =
    let g = c.well_formed in
    let w = walk_given _ _ _ _ _ _ c.loop-j.invariant.0 c.in-Some.ensures.steps in
    let h = value_fits _ _ _ _ _ _ [] _ _ _ (voiced _ _ _ _ w.met) c.loop-j.invariant.3 c.loop-j.invariant.4 _ _ w.below c.requires in
    let q = c.loop-j.invariant.5 in
    omega arith

pub loop-j-preserved : goal.loop-j-preserved
loop-j-preserved c =
    let l = c.loop-j in
    let w = walk_given _ _ _ _ _ _ c.loop-j.invariant.0 c.in-Some.ensures.steps in
    let v = voiced _ _ _ _ w.met in
    let f = at_frame _ 1 (rw w.stood at c.association_frame.ensures.is) c.field-v.ensures.0 in (
      w.goes,
      leads_more w.leads _ _ _ _ (λ k q x. sample_idle _ _ _ k q x) refl l.invariant.1 (sample_take _ _ _ _ _ _ v f c.sample-x.ensures.0 c.sample-x.ensures.1),
      omega (arith, l.invariant.2),
      value_place _ _ _ _ _ _ [] _ _ _ v l.invariant.3 l.invariant.4 w.leads refl,
      value_written _ _ _ _ _ _ _ _ _ _ v l.invariant.3 l.invariant.4 w.leads f (sampled_value _ _ _ _ _ _ w.below v l.invariant.1 f c.sample-x.ensures.0) c.put_word.ensures,
      omega (arith, l.invariant.5),
    )

pub returns : goal.returns
unfolding values
returns c = let l = c.loop-j in let e = walk_ended _ _ _ _ _ _ c.loop-j.invariant.0 c.in-None.ensures.steps in (up_to_end _ _ _ _ _ l.invariant.1 e, rw e at l.invariant.4, values_end _ _ _ _ _ _ l.invariant.3 e)
