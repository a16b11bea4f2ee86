use Rattle.rules_tables.specs.Place.{start_of}
use lib.ListN.{length, get_or}
use mathlib.Core.Path.{◌≡◌}
use Prim.Native.Nat.{ℕ, ◌≤◌}
use Rattle.table_frames.proofs.place.starts.Given as goal

abbrev pub invariant-loop-k : goal.invariant-loop-k
invariant-loop-k l = (length l.s ≡ 13) × ((j : ℕ) → j ≤ l.k → get_or l.s j 0 ≡ start_of l.t j)
