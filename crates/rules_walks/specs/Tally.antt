-- Numbers counted by a key, in a list with an entry for each key below its size.
use Rattle.std.specs.Prelude.{◌≡◌, List, ℕ, ◌+◌, ◌<◌, eqb, ltb, length, get_or, set}
use Rattle.rules_walks.specs.Pick.{pick}
use Rattle.rules_walks.specs.Count.{count_if}

-- of the first n numbers, those with key i
abbrev pub tally_to : (ℕ → ℕ) → ℕ → ℕ → ℕ
tally_to key i n = count_if (λ f. eqb (key f) i) n

-- the list m has the tally of each key below its size
pub record Tallied (key : ℕ → ℕ) (size : ℕ) (m : List ℕ) (n : ℕ) : Type 0 where
  pub long : length m ≡ size
  pub at : (i : ℕ) → i < size → get_or m i 0 ≡ tally_to key i n

-- one more at i, if the list has an entry there
unfoldable pub plus_at : List ℕ → ℕ → List ℕ
plus_at m i = pick (ltb i (length m)) (set m i (get_or m i 0 + 1)) m
