-- Store words are 32-bit, signed values in two's complement.
use Rattle.std.specs.Prelude.{ℕ, ℤ, pos, negsuc}
use Rattle.std.specs.Int.{w32}
use Rattle.std.proofs.Common.{to_z, of_z}

-- the signed value of a word, and the word of a signed value: the machine's own reading of 32 bits
abbrev pub signed : ℕ → ℤ
signed w = to_z w32 w

abbrev pub word : ℤ → ℕ
word z = of_z w32 z

-- a negative DT counts as 0
abbrev pub ticks_of : ℤ → ℕ
ticks_of (pos n) = n
ticks_of (negsuc n) = 0
