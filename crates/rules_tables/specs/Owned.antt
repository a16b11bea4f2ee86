-- The parts of an element, and the actions of a state, in table order: the k-th frame of a stretch that belongs to x, and how many come before a frame.
use Rattle.std.specs.Prelude.{ℕ, ◌+◌, Bool, eqb}
use Rattle.rules_walks.specs.Pick.{both, either}
use Rattle.rules_walks.specs.Count.{count_if}
use Rattle.rules_walks.specs.First.{Sought, first_below}
use Rattle.rules_tables.specs.Frame.{Table, flag_at, field_at}

-- in place of a flag: whatever flag it has
abbrev pub any : ℕ
any = 256

-- the j-th frame from `first` on belongs to x and has flag g
unfoldable pub belongs : Table → (first g x j : ℕ) → Bool
belongs T first g x j = both (either (eqb g any) (eqb (flag_at T (first + j)) g)) (eqb (field_at T (first + j) 0) x)

-- how many of those before the j-th do
abbrev pub rank : Table → (first g x j : ℕ) → ℕ
rank T first g x j = count_if (belongs T first g x) j

-- the j-th is the k-th of them, counted from 0
unfoldable pub is_nth : Table → (first g x k j : ℕ) → Bool
is_nth T first g x k j = both (belongs T first g x j) (eqb (rank T first g x j) k)

-- the k-th of them among n frames
abbrev pub nth : Table → (first n g x k : ℕ) → Sought
nth T first n g x k = first_below (is_nth T first g x k) n
