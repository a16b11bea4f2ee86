-- Laws of numbers in bytes: what is written is read again.
use Rattle.std.specs.Prelude.{◌≡◌, refl, List, ℕ, ◌+◌, ◌/◌, ◌%◌, ◌<◌, length, get_or}
use Rattle.std.proofs.Common.{add-zero, add_assoc, arith}
use Rattle.std.proofs.lemmas.List.Edits.{sets}
use Rattle.rules_numbers.proofs.laws.Sets.{get_d_sets}
use Rattle.rules_numbers.specs.Bytes.{half_at, word_at, half_bytes, word_bytes}

pub length_half : (h : ℕ) → length (half_bytes h) ≡ 2
unfolding half_bytes
length_half h = refl

pub length_word : (w : ℕ) → length (word_bytes w) ≡ 4
unfolding word_bytes half_bytes
length_word w = refl

-- ---- the numbers that bytes make
pub half_small : (s : List ℕ) (at : ℕ) → get_or s at 0 < 256 → get_or s (at + 1) 0 < 256 → half_at s at < 65536
unfolding half_at
half_small s at h k = omega arith

-- ---- a number that was written is read again
pub half_back : (s : List ℕ) (at h : ℕ) → at + 1 < length s → half_at (sets s at (half_bytes h)) at ≡ h
unfolding half_at half_bytes
half_back s at h k =
    let S : List ℕ = sets s at (half_bytes h) in
    let e0 : get_or S at 0 ≡ h / 256 = rw add-zero at (get_d_sets s at (half_bytes h) (omega arith) 0 (omega arith)) in
    let e1 : get_or S (at + 1) 0 ≡ h % 256 = get_d_sets s at (half_bytes h) (omega arith) 1 (omega arith) in
    omega arith

pub word_back : (s : List ℕ) (at w : ℕ) → at + 3 < length s → word_at (sets s at (word_bytes w)) at ≡ w
unfolding word_at word_bytes half_at half_bytes
word_back s at w k =
    let S : List ℕ = sets s at (word_bytes w) in
    let e0 : get_or S at 0 ≡ w / 65536 / 256 = rw add-zero at (get_d_sets s at (word_bytes w) (omega arith) 0 (omega arith)) in
    let e1 : get_or S (at + 1) 0 ≡ w / 65536 % 256 = get_d_sets s at (word_bytes w) (omega arith) 1 (omega arith) in
    let e2 : get_or S (at + 2) 0 ≡ w % 65536 / 256 = get_d_sets s at (word_bytes w) (omega arith) 2 (omega arith) in
    let e3 : get_or S (at + 2 + 1) 0 ≡ w % 65536 % 256 = rw add_assoc (get_d_sets s at (word_bytes w) (omega arith) 3 (omega arith)) in
    omega arith
