use Prim.Native.Nat.{◌≤◌}
use Rattle.stored.proofs.next_mark.Given as goal

abbrev pub invariant-loop-i : goal.invariant-loop-i
invariant-loop-i l = l.from ≤ l.i
