use lib.ListN.{length}
use Prim.Native.Nat.{◌≤◌, ◌-◌}
use Rattle.stored.proofs.play.Given as goal

abbrev pub invariant-loop-from : goal.invariant-loop-from
invariant-loop-from g l = l.from ≤ length l.input

abbrev pub decreases-loop-from : goal.decreases-loop-from
decreases-loop-from g l = length l.input - l.from
