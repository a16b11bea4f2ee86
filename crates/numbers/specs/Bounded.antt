-- What a reader promises of its result: the value, and the bound that callers need beside it.
use Rattle.std.specs.Prelude.{◌≡◌, ℕ, ◌<◌}

-- r is the value, and below the bound
pub record Bounded (bound value r : ℕ) : Type 0 where
  pub is : r ≡ value
  pub small : r < bound
