use Prim.Native.Nat.{◌≤◌, ◌-◌}
use lib.ListN.{length}
use Rattle.stored.proofs.tell_all.Given as goal

abbrev pub invariant-loop-from : goal.invariant-loop-from
invariant-loop-from g l = (l.from ≤ length l.all) × (l.k ≤ l.from) × (l.right ≤ l.from)

abbrev pub decreases-loop-from : goal.decreases-loop-from
decreases-loop-from g l = length l.all - l.from
