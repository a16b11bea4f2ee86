-- The first number of a range that passes a test.
use Rattle.std.specs.Prelude.{◌≡◌, Bool, true, false, ℕ, zero, suc, ◌+◌, ◌<◌, ◌≤◌}
use Rattle.rules_walks.specs.Choose.{choose}

-- what a search answers
pub data Sought : Type 0 where
  one : ℕ → Sought
  missing : Sought

-- the first of the k numbers from j on at which p holds
unfoldable pub first_from : (ℕ → Bool) → ℕ → ℕ → Sought
first_from p j zero = missing
first_from p j (suc k) = choose (p j) (one j) (first_from p (j + 1) k)

abbrev pub first_below : (ℕ → Bool) → ℕ → Sought
first_below p n = first_from p 0 n

-- ---- what its answers mean
-- v is the first of the k numbers from j on at which p holds
pub record First (p : ℕ → Bool) (j k v : ℕ) : Type 0 where
  pub from : j ≤ v
  pub below : v < j + k
  pub passes : p v ≡ true
  pub least : (i : ℕ) → j ≤ i → i < v → p i ≡ false
