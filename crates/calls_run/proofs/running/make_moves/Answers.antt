-- `make_moves` meets its contract. The invariant: the run is on its way (`Going`), and so is its trace where it has one (`Tracked`). Rests on every store of a
-- run being well formed (`telling`), and on what the four questions answered (`run_goes_on`, `space_if`).
use native.Mathlib.Omega.{arith}
use mathlib.Core.Path.{refl, sym, ◌∙◌}
use Rattle.moves_tell.proofs.laws.Sizing.{first_room}
use Rattle.calls_run.proofs.laws.Plenty.{telling}
use Rattle.calls_run.proofs.Asked.{some_number}
use Rattle.calls_run.proofs.Going.{going_start, going_more, comes_next, room_left, budget_left, untrue_left}
use Rattle.calls_run.proofs.Tracing.{tracked_start, tracked_more, run_done, run_goes_on, space_if, taped_here, not_taped_here, numbers_room, told_both}
use borrow.Author.Rules.{rules}
use Rattle.calls_run.specs.TapedIf.{TapedIf}
use Rattle.rules_traces.specs.Trace.{first_entries}
use Rattle.rules_moves.specs.Next.{move_by}
use Rattle.calls_run.proofs.running.make_moves.Goals as goal
use Rattle.calls_run.proofs.running.make_moves.Goals.{else-tracing, then-tracing}

pub loop-stop-init : goal.loop-stop-init
loop-stop-init c = (going_start _ _ _ _ _ _, rw c.requires.4 (tracked_start _ _ _ _ _ _), refl, refl)

pub next_move-next-requires : goal.next_move-next-requires
next_move-next-requires c =
    let start = c.requires in
    let long = start.1.parts.long in
    omega (arith, c.loop-stop.invariant.2)

pub invariant_of-turn : goal.invariant_of-turn
invariant_of-turn c =
    let start = c.requires in
    record { telling = telling _ _ _ _ _ _ start.0 start.1 start.2 start.3 c.loop-stop.invariant.0.store c.running-r.ensures c.next_move-next.ensures.0 }

pub asked-requires : goal.asked-requires
asked-requires c = let inv = c.loop-stop.invariant in (omega (arith, inv.0.fits, inv.0.long), inv.1.fits)

pub tell-requires : goal.tell-requires
tell-requires c =
    let start = c.requires in
    let inv = c.loop-stop.invariant in
    let tells = telling _ _ _ _ _ _ start.0 start.1 start.2 start.3 inv.0.store c.running-r.ensures c.next_move-next.ensures.0 in
    let comes = comes_next _ _ _ c.running-r.ensures c.next_move-next.ensures.0 in
    let go = rw c.in_default.is at c.asked.ensures in
    first_room _ _ _ _ _ _ tells _ _ (space_if _ _ _ _ _ _ _ _ _ _ _ _ _ _ _ inv.0 inv.1 comes go c.if-tracing.true)

pub make_told-so_far-requires : goal.make_told-so_far-requires
make_told-so_far-requires c =
    let start = c.requires in
    let inv = c.loop-stop.invariant in
    let tells = telling _ _ _ _ _ _ start.0 start.1 start.2 start.3 inv.0.store c.running-r.ensures c.next_move-next.ensures.0 in
    let comes = comes_next _ _ _ c.running-r.ensures c.next_move-next.ensures.0 in
    let go = rw c.in_default.is at c.asked.ensures in
    let space = space_if _ _ _ _ _ _ _ _ _ _ _ _ _ _ _ inv.0 inv.1 comes go in
    let first : TapedIf c.args.tracing (first_entries c.args.ix.now.net.table.now c.args.ix.now.net.shape c.next_move-next.result c.loop-stop.store (move_by c.args.ix.now.net.table.now c.args.ix.now.net.shape c.args.time c.next_move-next.result c.loop-stop.store)) c.loop-stop.tape c.if-tracing.tape =
    elim c.if-tracing.branch [ then-tracing w ↦ taped_here _ _ (first_room _ _ _ _ _ _ tells _ _ (space w.if-tracing.true)) w.tell.ensures w.tape-is | else-tracing w ↦ not_taped_here _ _ inv.1.fits w.if-tracing.false w.tape-is ] in (
      tells,
      room_left _ _ _ _ _ _ _ _ _ _ _ inv.0 comes (run_goes_on _ _ _ _ _ _ _ _ _ _ _ _ _ _ _ inv.0 inv.1 comes go),
      (let h = first.told_if.fits in h),
      numbers_room _ _ _ _ _ _ tells _ _ _ first.told_if space,
      (let w = untrue_left _ _ _ _ _ _ _ _ _ _ _ inv.0 comes (run_goes_on _ _ _ _ _ _ _ _ _ _ _ _ _ _ _ inv.0 inv.1 comes go) in let f = c.ranges.budget in omega arith),
    )

pub overflow_add-n : goal.overflow_add-n
overflow_add-n c =
    let inv = c.loop-stop.invariant in
    let comes = comes_next _ _ _ c.running-r.ensures c.next_move-next.ensures.0 in
    let go = rw c.in_default.is at c.asked.ensures in
    let w = budget_left _ _ _ _ _ _ _ _ _ _ _ inv.0 comes (run_goes_on _ _ _ _ _ _ _ _ _ _ _ _ _ _ _ inv.0 inv.1 comes go) in
    let f = c.ranges.budget in omega arith

pub loop-stop-smaller : goal.loop-stop-smaller
loop-stop-smaller c =
    let inv = c.loop-stop.invariant in
    let comes = comes_next _ _ _ c.running-r.ensures c.next_move-next.ensures.0 in
    let go = rw c.in_default.is at c.asked.ensures in
    let w = budget_left _ _ _ _ _ _ _ _ _ _ _ inv.0 comes (run_goes_on _ _ _ _ _ _ _ _ _ _ _ _ _ _ _ inv.0 inv.1 comes go) in
    omega arith

pub loop-stop-preserved : goal.loop-stop-preserved
loop-stop-preserved c =
    let start = c.requires in
    let inv = c.loop-stop.invariant in
    let tells = telling _ _ _ _ _ _ start.0 start.1 start.2 start.3 inv.0.store c.running-r.ensures c.next_move-next.ensures.0 in
    let comes = comes_next _ _ _ c.running-r.ensures c.next_move-next.ensures.0 in
    let go = rw c.in_default.is at c.asked.ensures in
    let space = space_if _ _ _ _ _ _ _ _ _ _ _ _ _ _ _ inv.0 inv.1 comes go in
    let first : TapedIf c.args.tracing (first_entries c.args.ix.now.net.table.now c.args.ix.now.net.shape c.next_move-next.result c.loop-stop.store (move_by c.args.ix.now.net.table.now c.args.ix.now.net.shape c.args.time c.next_move-next.result c.loop-stop.store)) c.loop-stop.tape c.if-tracing.tape =
    elim c.if-tracing.branch [ then-tracing w ↦ taped_here _ _ (first_room _ _ _ _ _ _ tells _ _ (space w.if-tracing.true)) w.tell.ensures w.tape-is | else-tracing w ↦ not_taped_here _ _ inv.1.fits w.if-tracing.false w.tape-is ] in (
      going_more _ _ _ _ _ _ _ _ _ _ _ inv.0 comes (run_goes_on _ _ _ _ _ _ _ _ _ _ _ _ _ _ _ inv.0 inv.1 comes go) _ _ c.make_told-so_far.ensures.0,
      tracked_more _ _ _ _ _ _ _ _ _ _ _ _ _ _ _ inv.0 inv.1 comes go (told_both _ _ _ _ _ _ tells _ _ _ first.told_if c.make_told-so_far.ensures.1.told_if),
      search rules,
      c.make_told-so_far.ensures.1.same ∙ first.same ∙ inv.3,
    )

pub returns : goal.returns
returns c =
    let inv = c.loop-stop.invariant in
    let comes = comes_next _ _ _ c.running-r.ensures c.next_move-next.ensures.0 in
    let stopped = rw c.in-Some.is at c.asked.ensures in
    record {
      ran_as = run_done _ _ _ _ _ _ _ _ _ _ _ _ _ _ _ inv.0 inv.1 comes (c.number.ensures ∙ stopped) (λ z. some_number _ (sym c.number.ensures ∙ z));
      same = inv.3;
    }
