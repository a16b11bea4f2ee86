-- "ids [count] from 0 within a kind"; "frames are counted by their kind byte, also in a table with other faults": all of it holds of any table.
use Rattle.std.specs.Prelude.{ℕ, zero, suc, ◌-◌, ◌<◌, List, Bool, ◌≡◌, length, get_or, eqb, ltb, leb}
use Rattle.rules_walks.specs.Pick.{pick, both, either}
use Rattle.rules_walks.specs.All.{all_to}
use Rattle.rules_walks.specs.Count.{count_if}
use Rattle.rules_tables.specs.Kind.{element}
use Rattle.rules_tables.specs.Frame.{Table, kind_at, flag_at, field_at, frames_of}

-- of the first n frames, those of kind k
abbrev pub count_to : Table → (k n : ℕ) → ℕ
count_to T k n = count_if (λ f. eqb (kind_at T f) k) n

-- of the first n frames, those of a kind below k
abbrev pub below_to : Table → (k n : ℕ) → ℕ
below_to T k n = count_if (λ f. ltb (kind_at T f) k) n

-- of the whole table
abbrev pub count_of : Table → (k : ℕ) → ℕ
count_of T k = count_to T k (frames_of T)

abbrev pub start_of : Table → (k : ℕ) → ℕ
start_of T k = below_to T k (frames_of T)

-- the kind of frame f is not below the kind before it
unfoldable pub order_at : Table → (f : ℕ) → Bool
order_at T f = either (eqb f 0) (leb (kind_at T (f - 1)) (kind_at T f))

-- the kinds of the table never fall
abbrev pub sorted_of : Table → Bool
sorted_of T = all_to (order_at T) (frames_of T)

-- of the first n frames, the one of kind k that has id frames of its kind before it (0 if there is none)
unfoldable pub seek_to : Table → (k id n : ℕ) → ℕ
seek_to T k id zero = 0
seek_to T k id (suc n) = pick (both (eqb (kind_at T n) k) (eqb (count_to T k n) id)) n (seek_to T k id n)

-- the frame of kind k with this id
abbrev pub place : Table → (k id : ℕ) → ℕ
place T k id = seek_to T k id (frames_of T)

-- it exists
abbrev pub exists : Table → (k id : ℕ) → Bool
exists T k id = ltb id (count_of T k)

-- the element that it belongs to: the number in its field a
abbrev pub owner_of : Table → (k id : ℕ) → ℕ
owner_of T k id = field_at T (place T k id) 0

abbrev pub flag_of : Table → (k id : ℕ) → ℕ
flag_of T k id = flag_at T (place T k id)

-- it exists and is of element el
unfoldable pub owned_by : Table → (k id el : ℕ) → Bool
owned_by T k id el = both (exists T k id) (eqb (owner_of T k id) el)

-- there is an element el, and it is of this sort
unfoldable pub sort_is : Table → (el sort : ℕ) → Bool
sort_is T el sort = both (exists T element el) (eqb (flag_of T element el) sort)

-- what a reader of ids has at hand: entry k (0 to 12) tells how many frames have a kind below k
pub record Starts (T at : List ℕ) : Type 0 where
  pub size : length at ≡ 13
  pub starts : (k : ℕ) → k < 13 → get_or at k 0 ≡ start_of T k
