-- A printed line: the upper-case hexadecimal digits of its bytes, then 0A.
use Rattle.std.specs.Prelude.{List, [], ◌∷◌, ◌++◌, ℕ, ◌+◌, ◌/◌, ◌%◌, ltb}
use Rattle.rules_walks.specs.Pick.{pick}

-- the digit that counts d
unfoldable pub glyph : ℕ → ℕ
glyph d = pick (ltb d 10) (48 + d) (55 + d)

-- the two digits of a byte
unfoldable pub pair : ℕ → List ℕ
pair b = glyph (b / 16) ∷ glyph (b % 16) ∷ []

unfoldable pub digits : List ℕ → List ℕ
digits [] = []
digits (b ∷ bs) = pair b ++ digits bs

unfoldable pub line_of : List ℕ → List ℕ
line_of B = digits B ++ (10 ∷ [])

-- where there are no bytes, no line
unfoldable pub line_if : List ℕ → List ℕ
line_if [] = []
line_if (b ∷ bs) = line_of (b ∷ bs)
