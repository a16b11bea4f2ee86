-- Partners, found in one pass: each element has an entry for the next of its frames that has no partner yet.
use Rattle.std.specs.Prelude.{◌≡◌, List, true, ℕ, ◌+◌, ◌<◌, ltb, get_or, set}
use Rattle.rules_walks.specs.Choose.{choose}
use Rattle.rules_tables.specs.Frame.{Table, field_at}
use Rattle.rules_tables.specs.Owned.{belongs, rank, nth}
use Rattle.table_index.specs.Leads.{Leads, or_end}

-- the partner of the i-th frame from `first` on, of those with flag g: the one of its owner with the same rank among the m frames from `other` on with flag h
abbrev pub partner_at : Table → (first g other m h i : ℕ) → ℕ
partner_at T first g other m h i = or_end m (nth T other m h (field_at T (first + i) 0) (rank T first g (field_at T (first + i) 0) i))

-- the entry at p, which leads to one of the m frames from `other` on, or to their end, leads to the next one
unfoldable pub advanced : (other m p : ℕ) → List ℕ → List ℕ
advanced other m p ix = choose (ltb (get_or ix p 0) m) (set ix p (get_or ix (other + get_or ix p 0) 0)) ix

-- the i-th frame, of owner x, gets the one that its owner's entry leads to, and where it is one of those with flag g the entry goes on
unfoldable pub paired : Table → (first g other m heads partners x i : ℕ) → List ℕ → List ℕ
paired T first g other m heads partners x i ix =
    choose (belongs T first g x i) (advanced other m (heads + x) (set ix (partners + i) (get_or ix (heads + x) 0))) (set ix (partners + i) (get_or ix (heads + x) 0))

-- the first i frames have their partners
pub record Pairing (T : Table) (first g other m h heads partners i : ℕ) (ix : List ℕ) : Type 0 where
  pub cursors : (x : ℕ) → x < 64 → get_or ix (heads + x) 0 ≡ or_end m (nth T other m h x (rank T first g x i))
  pub nexts : (o x : ℕ) → o < m → x < 64 → belongs T other h x o ≡ true → Leads (belongs T other h x) (o + 1) (get_or ix (other + o) 0) m
  pub known : (k : ℕ) → k < i → get_or ix (partners + k) 0 ≡ partner_at T first g other m h k
