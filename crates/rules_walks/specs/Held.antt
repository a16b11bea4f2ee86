-- How many numbers pass a test one after another from 0 on, before the first that fails: what a pass over a table answers.
use Rattle.std.specs.Prelude.{◌≡◌, Bool, true, false, ℕ, zero, suc, ◌≤◌, ◌<◌, eqb}
use Rattle.rules_walks.specs.Pick.{pick, both}

-- of the numbers below n
unfoldable pub held_to : (ℕ → Bool) → ℕ → ℕ
held_to p zero = 0
held_to p (suc n) = let h = held_to p n in pick (both (eqb h n) (p n)) (suc n) h

-- m is that number
pub record Held (p : ℕ → Bool) (n m : ℕ) : Type 0 where
  pub within : m ≤ n
  pub before : (i : ℕ) → i < m → p i ≡ true
  pub stopped : m < n → p m ≡ false
