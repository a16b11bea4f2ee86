-- Where a search goes on: the next number that passes, with nothing that passes left out.
use Rattle.std.specs.Prelude.{◌≡◌, Bool, true, false, ℕ, ◌≤◌, ◌<◌}
use Rattle.rules_walks.specs.First.{Sought, one, missing}

-- b is the first number from a on, below n, at which p holds; it is n where there is none
pub record Leads (p : ℕ → Bool) (a b n : ℕ) : Type 0 where
  pub from : a ≤ b
  pub within : b ≤ n
  pub skipped : (i : ℕ) → a ≤ i → i < b → p i ≡ false
  pub met : b < n → p b ≡ true

-- what a search answers as one number: n stands for none
abbrev pub or_end : (n : ℕ) → Sought → ℕ
or_end n (one j) = j
or_end n missing = n
