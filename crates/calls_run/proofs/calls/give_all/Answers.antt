-- `give_all` meets its contract. The invariant: the values that belong to the associations passed are given.
use Rattle.std.specs.Iterator.Adapters.{enumerate_source}
use Rattle.table_index.proofs.laws.Leads.{leads_start, leads_more, leads_count}
use Rattle.table_index.proofs.laws.Walk.{walk_given}
use Rattle.moves_take.proofs.laws.Known.{at_frame}
use Rattle.rules_tables.specs.Kind.{of_output}
use Rattle.rules_walks.proofs.laws.Count.{count_none, count_hit, count_past}
use Rattle.rules_tables.specs.Ids.{associations}
use Rattle.rules_moves.specs.Carry.{voice, speaks}
use Rattle.rules_calls.specs.Calls.{value_count}
use Rattle.calls_run.proofs.Turns.{give_one, give_idle, voices, voice_at}
use Prim.Native.Nat.{ℕ, ◌+◌}
use mathlib.Core.Path.{refl, sym, ap, ◌∙◌}
use native.Mathlib.Omega.{arith}
use Rattle.calls_run.proofs.calls.give_all.Goals as goal

pub loop-k-init : goal.loop-k-init
loop-k-init c =
    let l = c.associations_of.ensures in
    let v = voices _ _ _ l.leads in
    let e = c.enumerate-k-items.ensures in
    rw (c.into_iter-k-iterator.ensures.into_iter_gives, e.source, e.count) (l.goes, sym (leads_count v ∙ count_none _), leads_start v _ _ (λ i q x. give_idle _ _ _ _ i q x) refl, refl, omega arith)

pub bounds-values-k : goal.bounds-values-k
unfolding value_count
bounds-values-k c =
    let s = c.in-Some.ensures.steps in
    let w = walk_given _ _ _ _ _ _ c.loop-k.invariant.0 s.0 in
    let p = count_past (speaks c.args.ix.now.net.table.now c.args.ix.now.net.shape (voice of_output c.args.o)) (enumerate_source c.loop-k.k-iterator).at (associations c.args.ix.now.net.shape) w.below (voice_at _ _ _ _ w.met) in
    let q = c.requires in
    let k = s.1 ∙ c.loop-k.invariant.1 in
    omega arith

pub loop-k-preserved : goal.loop-k-preserved
loop-k-preserved c =
    let l = c.loop-k in
    let s = c.in-Some.ensures.steps in
    let w = walk_given _ _ _ _ _ _ l.invariant.0 s.0 in
    let h = voice_at _ _ _ _ w.met in
    let v = voices _ _ _ w.leads in
    (w.goes, s.2 ∙ ap (λ (m : ℕ). m + 1) l.invariant.1 ∙ sym (leads_count v ∙ count_hit _ (enumerate_source l.k-iterator).at h), leads_more v _ _ _ _ (λ i q x. give_idle _ _ _ _ i q x) refl l.invariant.2 (give_one _ _ _ _ _ _ _ h (at_frame _ 1 (rw w.stood at c.association_frame.ensures.is) c.field-v.ensures.0) (s.1 ∙ l.invariant.1) c.put_value.ensures), omega (arith, l.invariant.3), (let f = v.from in let z = l.invariant.4 in let e = s.2 in omega arith))
