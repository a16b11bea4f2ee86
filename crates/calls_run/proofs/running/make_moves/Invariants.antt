use Prim.Native.Nat.{◌-◌}
use mathlib.Core.Path.{◌≡◌}
use lib.ListN.{length}
use Rattle.calls_run.proofs.Going.{Going}
use Rattle.calls_run.proofs.Tracing.{Tracked}
use Rattle.calls_run.proofs.running.make_moves.Given as goal

abbrev pub invariant-loop-stop : goal.invariant-loop-stop
invariant-loop-stop l =
    Going l.ix.net.table.now l.ix.net.shape l.time l.budget l.initial.store l.initial.out l.store l.out l.n l.so_far.place l.so_far.untrue
    × Tracked l.tracing l.ix.net.table.now l.ix.net.shape l.time l.initial.store l.initial.tape.bytes.now l.tape.bytes.now l.n l.tape.at
    × (length l.store ≡ length l.initial.store) × (l.tape.bytes.ghost_name ≡ l.initial.tape.bytes.ghost_name)

abbrev pub decreases-loop-stop : goal.decreases-loop-stop
decreases-loop-stop l = l.budget - l.n
