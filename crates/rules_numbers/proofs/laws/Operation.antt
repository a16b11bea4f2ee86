-- A result of values in the range is in the range, so the store keeps it whole.
use Rattle.std.specs.Prelude.{◌≡◌, List, [], ◌∷◌, ℕ, zero, suc, ◌<◌, ℤ, pos, negsuc, get_or}
use Rattle.std.proofs.Common.{arith, leb→le}
use Rattle.std.specs.Int.Signed.{mag, lt_z, le_z_yes}
use Rattle.rules_walks.proofs.laws.Choose.{by_choose}
use Rattle.rules_numbers.specs.Word.{signed, word}
use Rattle.rules_numbers.proofs.laws.Word.{signed_word}
use Rattle.rules_numbers.specs.Clip.{InRange, clip, least, greatest}
use Rattle.rules_numbers.proofs.laws.Nearest.{clip_nearest}
use Rattle.rules_numbers.specs.Operation.{operations, operation}

-- ---- a result of values in the range is in the range, so the store keeps it whole
abbrev AllIn : List ℤ → Type 0
AllIn [] = Unit {0}
AllIn (z ∷ zs) = InRange z × AllIn zs

one_in : (zs : List ℤ) (n : ℕ) → AllIn zs → InRange (get_or zs n (pos 0))
one_in [] n w = record { low = le_z_yes tt; high = le_z_yes tt }
one_in (z ∷ zs) zero w = w.0
one_in (z ∷ zs) (suc n) w = one_in zs n w.1

module _ (n : ℕ) {b c age : ℤ} (wb : InRange b) (wc : InRange c) (wa : InRange age) where
  pub operation_in_range : InRange (operation n b c age)
  unfolding operation least greatest
  operation_in_range =
      let in-clip : (z : ℤ) → InRange (clip z) = λ z. (clip_nearest z).within in
      one_in (operations b c age) n (
        wb,
        (
          in-clip _,
          (
            in-clip _,
            (
              in-clip _,
              (
                in-clip _,
                (
                  in-clip _,
                  (by_choose InRange (lt_z c b) _ _ (λ _. wc) (λ _. wb), (by_choose InRange (lt_z b c) _ _ (λ _. wc) (λ _. wb), (wa, tt))),
                ),
              ),
            ),
          ),
        ),
      )

  pub operation_stored : signed (word (operation n b c age)) ≡ operation n b c age
  operation_stored = signed_word (magnitude _ operation_in_range)
    where
      magnitude : (z : ℤ) → InRange z → mag z < 2147483648
      magnitude (pos m) w = let h = leb→le m 2147483647 w.high.le in omega arith
      magnitude (negsuc m) w = let h = leb→le m 2147483647 w.low.le in omega arith
