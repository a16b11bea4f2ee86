-- How many numbers below a bound pass a test.
use Rattle.std.specs.Prelude.{Bool, ℕ, zero, suc, ◌+◌}
use Rattle.rules_walks.specs.Pick.{pick}

unfoldable pub count_if : (ℕ → Bool) → ℕ → ℕ
count_if p zero = 0
count_if p (suc n) = pick (p n) (count_if p n + 1) (count_if p n)
