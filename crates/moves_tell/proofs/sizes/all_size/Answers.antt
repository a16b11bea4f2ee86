-- `all_size` meets its contract. The invariant: the bytes of what the inputs passed bring; other variables bring nothing.
use native.Mathlib.Omega.{arith}
use mathlib.Core.Path.{ap}
use Rattle.rules_traces.specs.Gather.{gather}
use Rattle.table_index.proofs.laws.Walk.{walk_given, walk_ended}
use Rattle.moves_tell.proofs.laws.Sized.{sized_same, sized_first, sized_next}
use Rattle.moves_tell.proofs.laws.Brought.{not_brought}
use Rattle.moves_tell.proofs.sizes.all_size.Goals as goal

pub loop-v-init : goal.loop-v-init
loop-v-init c = let l = c.variables_of-v-items.ensures in rw c.into_iter-v-iterator.ensures.into_iter_gives (l.goes, sized_first _ (λ j e. not_brought _ _ c.requires.0 _ _ c.requires.1 _ _ j e) l.leads, omega arith)

pub brought_size-z-requires : goal.brought_size-z-requires
brought_size-z-requires c = let w = walk_given _ _ _ _ _ _ c.loop-v.invariant.0 c.in-Some.ensures.steps in (rw w.stood w.below, c.requires.2)

pub overflow_add-z : goal.overflow_add-z
overflow_add-z c = let w = walk_given _ _ _ _ _ _ c.loop-v.invariant.0 c.in-Some.ensures.steps in let l = w.below in let m = c.requires.0.is_lawful.is_good.few_variables in let h = c.loop-v.invariant.2 in let y = c.brought_size-z.ensures.1 in omega arith

pub loop-v-preserved : goal.loop-v-preserved
loop-v-preserved c =
    let w = walk_given _ _ _ _ _ _ c.loop-v.invariant.0 c.in-Some.ensures.steps in
    (w.goes, sized_next _ (λ j e. not_brought _ _ c.requires.0 _ _ c.requires.1 _ _ j e) _ w.leads c.loop-v.invariant.1 (rw w.stood at c.brought_size-z.ensures.0), (let f = w.leads.from in let y = c.brought_size-z.ensures.1 in let b = c.loop-v.invariant.2 in omega arith))

pub returns : goal.returns
returns c =
    let e = walk_ended _ _ _ _ _ _ c.loop-v.invariant.0 c.in-None.ensures.steps in
    (sized_same (ap (gather _) e) c.loop-v.invariant.1, (let m = c.requires.0.is_lawful.is_good.few_variables in let h = c.loop-v.invariant.2 in omega arith))
