-- Arithmetic on signed 32-bit values. The true result is taken over ℤ, where `negsuc n` is -(n + 1).
use Rattle.std.specs.Prelude.{zero, suc, ◌/◌, ℤ, pos, negsuc, neg_ℤ, ◌≤ℤ◌}
use Rattle.std.specs.Int.Signed.{lt_z}
use Rattle.rules_walks.specs.Choose.{choose}

-- the ends of the signed range, -2147483648 and 2147483647
abbrev pub lowest : ℤ
lowest = negsuc 2147483647

abbrev pub highest : ℤ
highest = pos 2147483647

pub record InRange (z : ℤ) : Type 0 where
  pub low : lowest ≤ℤ z
  pub high : z ≤ℤ highest

-- A result outside the signed range becomes the nearest end.
unfoldable pub clip : ℤ → ℤ
clip z = choose (lt_z z lowest) lowest (choose (lt_z highest z) highest z)

-- Divide toward zero: the quotient of the magnitudes, with its sign. A zero divisor gives 0.
unfoldable pub quotient : ℤ → ℤ → ℤ
quotient b (pos zero) = pos 0
quotient (pos a) (pos (suc d)) = pos (a / suc d)
quotient (pos a) (negsuc d) = neg_ℤ (pos (a / suc d))
quotient (negsuc a) (pos (suc d)) = neg_ℤ (pos (suc a / suc d))
quotient (negsuc a) (negsuc d) = pos (suc a / suc d)

-- Minimum and maximum.
unfoldable pub least : ℤ → ℤ → ℤ
least b c = choose (lt_z c b) c b

unfoldable pub greatest : ℤ → ℤ → ℤ
greatest b c = choose (lt_z b c) c b
