-- Chains through the frames of a kind, in a list of numbers: for each owner where its first frame is, for each frame where the next one of its owner is.
use Rattle.std.specs.Prelude.{◌≡◌, List, ◌⊎◌, ℕ, ◌+◌, ◌*◌, ◌≤◌, ◌<◌, eqb, length, get_or, set}
use Rattle.rules_tables.specs.Frame.{Table, flag_at, field_at}
use Rattle.table_index.specs.Leads.{Leads}

-- the owner of the j-th frame from `first` on: its field a; where the flag tells owners apart, the w owners of each flag stand together
unfoldable pub owner_at : Table → (first w j : ℕ) → ℕ
owner_at T first w j = w * flag_at T (first + j) + field_at T (first + j) 0

-- of the n frames from `first` on, those from the j-th on are chained: entry base + x leads to the first of owner x, entry first + i from the i-th to the
-- next one of its owner
pub record Chained (own : ℕ → ℕ) (first n base owners j : ℕ) (ix : List ℕ) : Type 0 where
  pub heads : (x : ℕ) → x < owners → Leads (λ i. eqb (own i) x) j (get_or ix (base + x) 0) n
  pub nexts : (i : ℕ) → j ≤ i → i < n → Leads (λ k. eqb (own k) (own i)) (i + 1) (get_or ix (first + i) 0) n

-- the j-th frame, of owner x, is put before those that are chained
unfoldable pub linked : (first base x j : ℕ) → List ℕ → List ℕ
linked first base x j ix = set (set ix (first + j) (get_or ix (base + x) 0)) (base + x) j

-- ix' is ix but for the entries from a to b and those from c to d
pub record Apart (a b c d : ℕ) (ix ix' : List ℕ) : Type 0 where
  pub long : length ix' ≡ length ix
  pub kept : (i : ℕ) → (i < a) ⊎ (b ≤ i) → (i < c) ⊎ (d ≤ i) → get_or ix' i 0 ≡ get_or ix i 0

-- in ix' the n entries from base on are x, and the others as in ix
pub record Filled (base n x : ℕ) (ix ix' : List ℕ) : Type 0 where
  pub long : length ix' ≡ length ix
  pub filled : (i : ℕ) → i < n → get_or ix' (base + i) 0 ≡ x
  pub kept : (i : ℕ) → (i < base) ⊎ (base + n ≤ i) → get_or ix' i 0 ≡ get_or ix i 0
