-- The nearest number in the signed range.
use Rattle.std.specs.Prelude.{◌≡◌, ◌≤◌, ℤ, nat_abs, ◌-ℤ◌, ◌<ℤ◌}
use Rattle.rules_numbers.specs.Clip.{lowest, highest, InRange}

-- r is what z becomes: in the range; z itself where z is in the range, the end that z lies beyond where it is not; and nothing in the range is nearer to z
pub record Nearest (z r : ℤ) : Type 0 where
  pub within : InRange r
  pub kept : InRange z → r ≡ z
  pub under : z <ℤ lowest → r ≡ lowest
  pub over : highest <ℤ z → r ≡ highest
  pub nearest : (y : ℤ) → InRange y → nat_abs (z -ℤ r) ≤ nat_abs (z -ℤ y)
