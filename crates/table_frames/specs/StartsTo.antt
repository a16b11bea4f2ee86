-- Where the kinds begin among a table's first frames: entry k (0 to 12) tells how many of the first n frames have a kind below k.
use Rattle.std.specs.Prelude.{ℕ, ◌<◌, List, ◌≡◌, length, get_or}
use Rattle.rules_tables.specs.Place.{below_to}

pub record StartsTo (T : List ℕ) (n : ℕ) (at : List ℕ) : Type 0 where
  pub size : length at ≡ 13
  pub starts : (k : ℕ) → k < 13 → get_or at k 0 ≡ below_to T k n
