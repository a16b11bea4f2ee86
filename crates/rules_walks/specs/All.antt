-- Tests of every number, or of some number, below a bound.
use Rattle.std.specs.Prelude.{◌≡◌, Bool, true, false, ℕ, zero, suc, ◌<◌}
use Rattle.rules_walks.specs.Pick.{both, either}

-- p holds at each number below n
unfoldable pub all_to : (ℕ → Bool) → ℕ → Bool
all_to p zero = true
all_to p (suc n) = both (all_to p n) (p n)

-- p holds at some number below n
unfoldable pub any_to : (ℕ → Bool) → ℕ → Bool
any_to p zero = false
any_to p (suc n) = either (any_to p n) (p n)

-- the number that passes
pub record Witness (p : ℕ → Bool) (n : ℕ) : Type 0 where
  pub which : ℕ
  pub below : which < n
  pub passes : p which ≡ true
