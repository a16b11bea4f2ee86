-- Numbers in bytes, high byte first.
use Rattle.std.specs.Prelude.{List, [], ◌∷◌, ◌++◌, ℕ, ◌+◌, ◌*◌, ◌/◌, ◌%◌, get_or}

-- the 16-bit and the 32-bit number at a place
unfoldable pub half_at : List ℕ → ℕ → ℕ
half_at s at = get_or s at 0 * 256 + get_or s (at + 1) 0

unfoldable pub word_at : List ℕ → ℕ → ℕ
word_at s at = half_at s at * 65536 + half_at s (at + 2)

-- the bytes of a 16-bit and of a 32-bit number
unfoldable pub half_bytes : ℕ → List ℕ
half_bytes h = h / 256 ∷ h % 256 ∷ []

unfoldable pub word_bytes : ℕ → List ℕ
word_bytes w = half_bytes (w / 65536) ++ half_bytes (w % 65536)
