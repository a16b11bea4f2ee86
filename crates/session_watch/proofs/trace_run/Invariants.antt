use lib.ListN.{length}
use mathlib.Core.Path.{◌≡◌}
use Prim.Native.Nat.{◌≤◌}
use Rattle.session_watch.proofs.trace_run.Given as goal

abbrev pub invariant-loop-traced : goal.invariant-loop-traced
invariant-loop-traced g l = (l.from ≤ 4096) × (length l.out ≡ 4096) × (length l.store ≡ length l.initial.store)

abbrev pub decreases-loop-traced : goal.decreases-loop-traced
decreases-loop-traced g l = l.left
