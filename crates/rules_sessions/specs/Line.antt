-- "Standard input has lines .. of 2 to 24 upper-case hexadecimal digits, an even number, one frame each; digits left off at the end are zeros."
use Rattle.std.specs.Prelude.{ℕ, zero, suc, ◌+◌, ◌*◌, ◌-◌, ◌%◌, List, [], ◌∷◌, ◌++◌, Bool, eqb, leb, length, get_or}
use Rattle.rules_walks.specs.Pick.{pick, both, either}
use Rattle.rules_walks.specs.All.{all_to}

-- a character that is a digit: 0 to 9, A to F
unfoldable pub is_digit : ℕ → Bool
is_digit c = either (both (leb 48 c) (leb c 57)) (both (leb 65 c) (leb c 70))

-- what a digit counts
unfoldable pub digit_value : ℕ → ℕ
digit_value c = pick (leb c 57) (c - 48) (c - 55)

-- character i of a line is get_or L i 48: past the line's end it is a zero
unfoldable pub all_digits : List ℕ → Bool
all_digits L = all_to (λ i. is_digit (get_or L i 48)) (length L)

-- a line of the form
unfoldable pub line_ok : List ℕ → Bool
line_ok L = both (leb 2 (length L)) (both (leb (length L) 24) (both (eqb (length L % 2) 0) (all_digits L)))

-- byte k of its frame
unfoldable pub byte_of : List ℕ → ℕ → ℕ
byte_of L k = digit_value (get_or L (2 * k) 48) * 16 + digit_value (get_or L (2 * k + 1) 48)

-- the first n bytes
unfoldable pub bytes_to : List ℕ → ℕ → List ℕ
bytes_to L zero = []
bytes_to L (suc n) = bytes_to L n ++ (byte_of L n ∷ [])

-- its frame
abbrev pub line_frame : List ℕ → List ℕ
line_frame L = bytes_to L 12

-- "The first line beginning 80 to 83 .. ends the table and starts the load, before it is judged"
unfoldable pub opens : List ℕ → Bool
opens L = both (leb 2 (length L)) (both (eqb (get_or L 0 48) 56) (both (leb 48 (get_or L 1 48)) (leb (get_or L 1 48) 51)))
