-- A walk over the numbers below a bound in rising order, defined by how many are done.
use Rattle.std.specs.Prelude.{ℕ, zero, suc}

module _ {ℓ} {A : Type ℓ} where
  -- the steps 0 to n - 1 of f, one after the other
  unfoldable pub up_to : (ℕ → A → A) → ℕ → A → A
  up_to f zero s = s
  up_to f (suc j) s = f j (up_to f j s)
