-- Bits of words, 32 to a word, the lowest first.
use Rattle.std.specs.Prelude.{ℕ, ◌/◌, ◌%◌, ◌^◌, List, Bool, ◌≡◌, eqb, get_or, set}
use Rattle.std.specs.Int.Bits.{bit_or}

-- bit j of a word
unfoldable pub bit_at : ℕ → ℕ → Bool
bit_at w j = eqb (w / 2 ^ j % 2) 1

-- the word with bit j set
unfoldable pub raised : ℕ → ℕ → ℕ
raised w j = bit_or w (2 ^ j)

-- number i is in the set of numbers that the list's bits are
unfoldable pub in_set : List ℕ → ℕ → Bool
in_set m i = bit_at (get_or m (i / 32) 0) (i % 32)

-- the set with i in it
unfoldable pub added : List ℕ → ℕ → List ℕ
added m i = set m (i / 32) (raised (get_or m (i / 32) 0) (i % 32))

-- every word is 0
pub record Clear (m : List ℕ) : Type 0 where
  pub zero : (p : ℕ) → ◌≡◌ {A = ℕ} (get_or m p 0) 0
