-- The marks of the first n numbers, kept as a set.
use Rattle.std.specs.Prelude.{◌≡◌, List, Bool, ℕ, ◌/◌, ◌<◌, length}
use Rattle.rules_walks.specs.All.{any_to}
use Rattle.numbers_bits.specs.Bit.{in_set}

-- i is in the set m of so many words exactly when one of the first n numbers g has mark i, that is p i g
pub record Marked (p : ℕ → ℕ → Bool) (words : ℕ) (m : List ℕ) (n : ℕ) : Type 0 where
  pub long : length m ≡ words
  pub at : (i : ℕ) → i / 32 < words → in_set m i ≡ any_to (p i) n
