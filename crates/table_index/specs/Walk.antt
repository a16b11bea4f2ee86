-- A walk along the index, what it goes through and what a step of it gives.
use Rattle.std.specs.Prelude.{◌≡◌, true, ℕ, ◌+◌, ◌≤◌, ◌<◌, Option, MatchOption}
use Rattle.rules_tables.specs.Frame.{Table}
use Rattle.rules_tables.specs.Owned.{belongs}
use Rattle.table_index.specs.Leads.{Leads}
use Rattle.table_index.specs.declared.walk.Walk.{Walk}

-- w goes through the n frames from a on, and gives those of owner x with flag g
pub record Goes (T : Table) (a n g x : ℕ) (w : Walk) : Type 0 where
  pub table : w.table.now ≡ T
  pub first : w.first ≡ a
  pub end : w.end ≡ n
  pub flag : w.flag ≡ g
  pub owner : w.owner ≡ x

-- it stands at the first of them
pub record Begins (T : Table) (a n g x : ℕ) (w : Walk) : Type 0 where
  pub goes : Goes T a n g x w
  pub leads : Leads (belongs T a g x) 0 w.at n

-- a step from s to t gives where the walk stands, if frames are left, and the walk then stands at the next one
abbrev pub Stepped : Walk → Option ℕ → Walk → Type 0
Stepped s r t =
    Goes s.table.now s.first s.end s.flag s.owner t
    × MatchOption r (s.end ≤ s.at) (λ j. (j ≡ s.at) × (j < s.end) × Leads (belongs s.table.now s.first s.flag s.owner) (j + 1) t.at s.end)

-- a frame was given: where the walk stood
pub record Given (T : Table) (a n g x : ℕ) (s : Walk) (v : ℕ) (t : Walk) : Type 0 where
  pub goes : Goes T a n g x t
  pub stood : v ≡ s.at
  pub below : s.at < n
  pub met : belongs T a g x s.at ≡ true
  pub leads : Leads (belongs T a g x) (s.at + 1) t.at n
