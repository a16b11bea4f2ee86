use Rattle.moves_least.specs.Waits.{waits_at}
use mathlib.Core.Bool.{false}
use mathlib.Core.Path.{◌≡◌}
use Prim.Native.Nat.{ℕ, ◌≤◌, ◌<◌}
use Rattle.moves_least.proofs.next_waiting.Given as goal

abbrev pub invariant-loop-k : goal.invariant-loop-k
invariant-loop-k l = ((j : ℕ) → l.i ≤ j → j < l.k → waits_at l.shape l.store j ≡ false) × (l.i ≤ l.k)
