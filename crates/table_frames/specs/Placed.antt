-- The frames by kind and id, in a list: what a reader of ids has at hand where a table is out of order.
use Rattle.std.specs.Prelude.{ℕ, ◌+◌, ◌≤◌, ◌<◌, List, ◌≡◌, true, length, get_or}
use Rattle.rules_tables.specs.Frame.{frames_of, kind_at}
use Rattle.rules_tables.specs.Place.{count_to, start_of, sorted_of}

-- where frame g belongs: at its kind's start and its id beyond it
abbrev pub slot_of : (T : List ℕ) (g : ℕ) → ℕ
slot_of T g = start_of T (kind_at T g) + count_to T (kind_at T g) g

-- the first f frames, those of a known kind, stand where they belong
pub record Placed (T places : List ℕ) (f : ℕ) : Type 0 where
  pub at : (g : ℕ) → g < f → kind_at T g < 12 → get_or places (slot_of T g) 0 ≡ g

-- where the next frame of each known kind belongs, after the first f frames
pub record Nexts (T next : List ℕ) (f : ℕ) : Type 0 where
  pub size : length next ≡ 13
  pub at : (k : ℕ) → k < 12 → get_or next k 0 ≡ start_of T k + count_to T k f

-- no list where the kinds of the table never fall, else one that has all frames
pub record Located (T places : List ℕ) : Type 0 where
  pub ordered : length places ≡ 0 → sorted_of T ≡ true
  pub room : (length places ≡ 0 → ⊥) → frames_of T ≤ length places
  pub placed : (length places ≡ 0 → ⊥) → Placed T places (frames_of T)
