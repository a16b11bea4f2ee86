-- Words and signed values are each other's way back.
use Rattle.std.specs.Prelude.{◌≡◌, ℕ, ◌≤◌, ◌<◌, ℤ, pos, negsuc, ◌-ℤ◌}
use Rattle.std.proofs.Common.{ap, arith, lt-ltb, le-ltb, to_z-of_z}
use Rattle.std.specs.Int.Signed.{mag}
use Rattle.std.specs.Int.{w32}
use Rattle.std.proofs.Math.Facts.{of_z-to_z, to_z_pos}
use Rattle.rules_numbers.specs.Word.{signed, word}

-- ---- a word of the lower half is its own value; of the upper half, the value is the word less 2 ^ 32
pub signed_low : {w : ℕ} → w < 2147483648 → signed w ≡ pos w
signed_low h = to_z_pos w32 h

pub signed_high : {w : ℕ} → 2147483648 ≤ w → w < 4294967296 → signed w ≡ pos w -ℤ pos 4294967296
signed_high {w} h k = rw (le-ltb w 2147483648 h, lt-ltb w 4294967296 k) (ap negsuc (omega arith))

-- ---- the two are each other's way back; `mag z` is n both for n and for -(n + 1), so one bound says that z is in the signed range
pub signed_word : {z : ℤ} → mag z < 2147483648 → signed (word z) ≡ z
signed_word h = to_z-of_z {w = w32} (record { sfits = h })

pub word_signed : {w : ℕ} → w < 4294967296 → word (signed w) ≡ w
word_signed h = of_z-to_z {w = w32} (record { fits = h })
