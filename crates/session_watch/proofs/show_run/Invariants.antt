use lib.ListN.{length}
use mathlib.Core.Path.{◌≡◌}
use Prim.Native.Nat.{◌≤◌}
use Rattle.session_watch.proofs.show_run.Given as goal

abbrev pub invariant-loop-out : goal.invariant-loop-out
invariant-loop-out l = (l.from ≤ 4096) × (length l.out ≡ 4096) × (l.seen ≤ l.frames) × (length l.store ≡ length l.initial.store) × (length l.shown ≡ length l.initial.shown)

abbrev pub decreases-loop-out : goal.decreases-loop-out
decreases-loop-out l = l.left
