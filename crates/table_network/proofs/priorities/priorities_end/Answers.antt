-- `priorities::priorities_end` meets its contract. The loop's invariant: the filter has the priorities below f, and every frame below f is fresh.
use Rattle.rules_walks.proofs.laws.All.{all_none, all_more}
use Rattle.rules_walks.proofs.laws.Held.{held_stop}
use Rattle.numbers_bits.proofs.laws.Marked.{marked_none}
use Rattle.table_network.proofs.laws.Alike.{fresh_other}
use Rattle.table_network.proofs.laws.Known.{stretch_end}
use Rattle.table_network.proofs.laws.Priorities.{elements_first, priority_fresh}
use mathlib.Core.Path.{◌≡◌}
use native.Mathlib.Omega.{arith}
use Rattle.table_network.proofs.priorities.priorities_end.Goals as goal

pub loop-f-init : goal.loop-f-init
loop-f-init c =
    let s = c.args.front.now in
    (elements_first s.kinds.table.now _ s.n _ s.known.stretches c.row-hi.ensures.end, marked_none _ _, all_none _)

pub shared_priority-requires : goal.shared_priority-requires
shared_priority-requires c =
    let l = c.loop-f in
    let h = l.invariant.0.within in
    let g = c.args.front.now.known.stretches.within in
    (omega arith, l.invariant.1)

pub returns-then-shared_priority : goal.returns-then-shared_priority
returns-then-shared_priority c =
    let s = c.args.front.now in
    let l = c.loop-f in
    let h = l.invariant.0.within in
    (held_stop _ _ l.f (omega arith) l.invariant.2 (rw (priority_fresh s.kinds.table.now s.n _ l.f l.invariant.0 c.loop-f-test.true, ← c.shared_priority.ensures.0, c.if-shared_priority.true)), omega arith)

pub loop-f-preserved : goal.loop-f-preserved
loop-f-preserved c =
    let s = c.args.front.now in
    let l = c.loop-f in (
      l.invariant.0,
      c.shared_priority.ensures.1,
      all_more _ l.f l.invariant.2 (rw (priority_fresh s.kinds.table.now s.n _ l.f l.invariant.0 c.loop-f-test.true, ← c.shared_priority.ensures.0, c.if-shared_priority.false)),
    )

pub returns : goal.returns
returns c =
    let s = c.args.front.now in
    let l = c.loop-f in
    let e : l.f ≡ c.row-hi.result.1 = omega arith in
    (stretch_end s.kinds.table.now _ 1 s.n _ _ (fresh_other 1 s.kinds.table.now 1 s.n) l.invariant.0 (rw e at l.invariant.2), omega arith)
