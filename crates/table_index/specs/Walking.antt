-- A walk along the index: where it is, and where each frame of the owner leads.
use Rattle.std.specs.Prelude.{◌≡◌, List, true, ℕ, ◌+◌, ◌≤◌, ◌<◌, get_or}
use Rattle.rules_tables.specs.Frame.{Table}
use Rattle.rules_tables.specs.Owned.{belongs}
use Rattle.table_index.specs.Leads.{Leads}
use Rattle.table_index.specs.Index.{Follows, index_size}

pub record Walking (T : Table) (ix : List ℕ) (first end g x at : ℕ) : Type 0 where
  pub inside : first + end ≤ index_size
  pub within : at ≤ end
  pub met : at < end → belongs T first g x at ≡ true
  pub next : (j : ℕ) → j < end → belongs T first g x j ≡ true → Leads (belongs T first g x) (j + 1) (get_or ix (first + j) 0) end

-- the n frames from `first` on with flag g, as owner x finds them: the entries of so many owners begin at `base`, and an owner past them has no frames
pub record Listed (T : Table) (ix : List ℕ) (first n g base owners x : ℕ) : Type 0 where
  pub inside : first + n ≤ index_size
  pub room : base + owners ≤ index_size
  pub head : x < owners → Leads (belongs T first g x) 0 (get_or ix (base + x) 0) n
  pub beyond : owners ≤ x → Leads (belongs T first g x) 0 n n
  pub nexts : (j : ℕ) → j < n → Follows T first g n j (get_or ix (first + j) 0)
