use Prim.Native.Nat.{◌-◌}
use Rattle.moves_chart.proofs.Turns.{Searching}
use Rattle.moves_chart.proofs.find_transition.Given as goal

abbrev pub invariant-loop-j : goal.invariant-loop-j
invariant-loop-j l = Searching l.ix.net.table.now l.ix.net.shape l.store l.q l.event l.live l.j

abbrev pub decreases-loop-j : goal.decreases-loop-j
decreases-loop-j l = l.n - l.j
