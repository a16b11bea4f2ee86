-- The frame that a search for an id finds.
use Rattle.std.specs.Prelude.{◌≡◌, List, ℕ, ◌<◌}
use Rattle.rules_tables.specs.Frame.{kind_at}
use Rattle.rules_tables.specs.Place.{count_to}

-- what is known of the place of an id that exists
pub record Found (T : List ℕ) (k id n p : ℕ) : Type 0 where
  pub in_table : p < n
  pub kind : kind_at T p ≡ k
  pub nth : count_to T k p ≡ id
