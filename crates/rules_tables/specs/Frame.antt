-- "Frames of 12 bytes: kind, flag, then five 16-bit numbers a, b, c, d, e, high byte first. Frames count from 0."
use Rattle.std.specs.Prelude.{ℕ, ◌+◌, ◌*◌, ◌/◌, List, length, get_or}
use Rattle.rules_numbers.specs.Bytes.{half_at}

-- a table is the list of its bytes
abbrev pub Table : Type 0
Table = List ℕ

-- how many whole frames the table has
abbrev pub frames_of : Table → ℕ
frames_of T = length T / 12

unfoldable pub kind_at : Table → (f : ℕ) → ℕ
kind_at T f = get_or T (12 * f) 0

unfoldable pub flag_at : Table → (f : ℕ) → ℕ
flag_at T f = get_or T (12 * f + 1) 0

-- the fields a to e are 0 to 4
unfoldable pub field_at : Table → (f j : ℕ) → ℕ
field_at T f j = half_at T (12 * f + (2 * j + 2))
