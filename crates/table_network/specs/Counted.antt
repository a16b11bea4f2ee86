-- The marks of the first n numbers, counted.
use Rattle.std.specs.Prelude.{◌≡◌, List, Bool, ℕ, ◌<◌, length, get_or}
use Rattle.rules_walks.specs.Count.{count_if}

-- entry i of the list m tells how many of the first n numbers g have mark i, that is p i g
pub record Counted (p : ℕ → ℕ → Bool) (m : List ℕ) (n : ℕ) : Type 0 where
  pub at : (i : ℕ) → i < length m → get_or m i 0 ≡ count_if (p i) n
