-- Where the spare words lie: 12 to 15.
use Rattle.std.specs.Prelude.{ℕ, ◌≤◌, ◌<◌}
use Rattle.std.proofs.Common.{arith}
use Rattle.rules_store.specs.Word.{spares, spare_at}

pub spare_from : (j : ℕ) → 12 ≤ spare_at j
unfolding spare_at
spare_from j = omega arith

pub spare_below : (j : ℕ) → j < spares → spare_at j < 16
unfolding spare_at
spare_below j l = omega arith
