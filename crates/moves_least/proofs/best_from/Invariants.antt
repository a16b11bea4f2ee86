use Rattle.rules_walks.specs.Walk.{up_to}
use Rattle.std.specs.Prelude.{Some, None}
use Rattle.rules_moves.specs.Least.{look}
use mathlib.Core.Path.{◌≡◌}
use Prim.Native.Nat.{◌≤◌, ◌-◌}
use Rattle.moves_least.proofs.best_from.Given as goal

abbrev pub invariant-loop-i : goal.invariant-loop-i
invariant-loop-i l = (Some (l.best, l.h) ≡ up_to (look l.net.table.now l.net.shape l.store) l.i None) × (l.i ≤ l.n)

abbrev pub decreases-loop-i : goal.decreases-loop-i
decreases-loop-i l = l.n - l.i
