-- A number's bytes, as the library makes them, and a part of a list that is written with them.
-- Assumes nothing.
use Rattle.std.specs.Prelude.{◌≡◌, List, [], ◌∷◌, ℕ, ◌+◌, ◌/◌, ◌%◌, ◌≤◌, ◌<◌, length}
use Rattle.std.specs.Int.{w16, w32, to_be_bytes}
use Rattle.std.proofs.Common.{ap, ◌∙◌, arith, append_assoc}
use Rattle.std.proofs.lemmas.List.Edits.{sets, sets-eq, paste_all}
use Rattle.std.proofs.lemmas.Slice.{put_mid-paste}
use borrow.Rule.Slice.PartMut.{put_mid}
use Rattle.rules_numbers.specs.Bytes.{half_bytes, word_bytes}

pub half_told : (h : ℕ) → h < 65536 → to_be_bytes w16 h ≡ half_bytes h
unfolding half_bytes
half_told h l = ap (λ (x : ℕ). x ∷ h % 256 ∷ []) (omega arith)

pub word_told : (w : ℕ) → w < 4294967296 → to_be_bytes w32 w ≡ word_bytes w
unfolding word_bytes half_bytes
word_told w l =
    λ i. first i ∷ w / 65536 % 256 ∷ third i ∷ last i ∷ []
  where
    first : w / 16777216 % 256 ≡ w / 65536 / 256
    first = omega arith

    third : w / 256 % 256 ≡ w % 65536 / 256
    third = omega arith

    last : w % 256 ≡ w % 65536 % 256
    last = omega arith

-- what is written over k entries from i on is a run of stores
pub put_run : (l : List ℕ) (i k : ℕ) (ys vs : List ℕ) → ys ≡ vs → k ≡ length vs → i + length vs ≤ length l → put_mid i k l ys ≡ sets l i vs
put_run l i k ys vs e n h = put_mid-paste i k l ys vs k e (omega arith) n ∙ paste_all l i vs k n ∙ rw (n, sets-eq vs l i h, append_assoc)
