-- `Eight::end` meets its contract. The loop's invariant: the windows up to event b are looked at.
use Rattle.table_network.proofs.laws.Counted.{eight_past}
use Rattle.table_network.proofs.laws.Windows.{windows_none, windows_more, windows_all}
use lib.Seq.{length-take-le}
use mathlib.Core.Path.{refl}
use native.Mathlib.Omega.{arith}
use borrow.Author.Rules.{rules}
use Rattle.table_network.proofs.eight.Eight.end.Goals as goal

pub loop-b-init : goal.loop-b-init
loop-b-init c = (omega arith, refl, omega arith, windows_none _ _ _)

pub loop-b-preserved : goal.loop-b-preserved
loop-b-preserved c =
    let l = c.loop-b in
    let q = rw (length-take-le c.min-w.result l.counts (let h = l.invariant.1 in omega arith)) at c.window_end-e.ensures.0 in
    (omega arith, search rules, search rules, windows_more _ _ _ l.b _ l.e _ l.invariant.3 q)

pub returns : goal.returns
returns c =
    let s = c.args.self.now in
    let l = c.loop-b in
    (windows_all _ _ s.front.n l.b l.e (eight_past s.front.kinds.table.now _ s.front.n l.b s.slotting (rw s.all at c.loop-b-test.false)) l.invariant.3, l.invariant.2)
