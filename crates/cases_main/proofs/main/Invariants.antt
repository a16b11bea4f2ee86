use Prim.Native.Nat.{◌≤◌}
use Rattle.cases_main.proofs.main.Given as goal

abbrev pub invariant-loop-i : goal.invariant-loop-i
invariant-loop-i l = l.points ≤ l.i
