-- When a result is the true one, in terms of the signed range: exactly where the operation has a true value and that lies in the range. So what is not true was
-- clipped, or divided by zero.
use Rattle.std.specs.Prelude.{◌≡◌, Bool, true, false, List, [], ◌∷◌, ℕ, zero, suc, ◌≤◌, ℤ, pos, negsuc, get_or}
use Rattle.std.proofs.Math.Path.{refl}
use Rattle.std.proofs.Common.{sym, ap, subst, ◌∙◌, arith}
use Rattle.std.specs.Int.Signed.{lt_z, le_z_yes}
use Rattle.rules_walks.proofs.laws.Choose.{by_choose}
use Rattle.rules_walks.proofs.laws.Pick.{clash}
use Rattle.rules_numbers.specs.Clip.{InRange, clip, quotient, least, greatest}
use Rattle.rules_numbers.proofs.laws.Equal.{equal_same, equal_self}
use Rattle.rules_numbers.proofs.laws.Nearest.{clip_nearest}
use Rattle.rules_numbers.specs.Operation.{operations, operation}
use Rattle.rules_numbers.proofs.laws.Operation.{operation_in_range}
use Rattle.rules_numbers.specs.Truth.{TrueValue, exactly, undefined, divided, true_values, true_value, agrees, outcome, is_true}

-- ---- a result that is told to be true is the true value, and the true value is told to be true
pub true_means : (n : ℕ) (b c age : ℤ) → is_true n b c age ≡ true → true_value n b c age ≡ exactly (operation n b c age)
unfolding outcome
true_means n b c age = by (operation n b c age) (true_value n b c age)
  where
    by : (r : ℤ) (v : TrueValue) → agrees r v ≡ true → v ≡ exactly r
    by r (exactly z) e = ap exactly (sym (equal_same r z e))
    by r undefined e = clash e

pub means_true : (n : ℕ) (b c age : ℤ) → true_value n b c age ≡ exactly (operation n b c age) → is_true n b c age ≡ true
unfolding outcome
means_true n b c age e = rw e (equal_self (operation n b c age))

-- ---- the result is the true value, clipped, where there is one
-- each result is what its true value becomes
abbrev Becomes : ℤ → TrueValue → Type 0
Becomes r (exactly z) = r ≡ clip z
Becomes r undefined = r ≡ pos 0

abbrev AllBecome : List ℤ → List TrueValue → Type 0
AllBecome [] [] = Unit {0}
AllBecome (r ∷ rs) (v ∷ vs) = Becomes r v × AllBecome rs vs
AllBecome [] (v ∷ vs) = ⊥
AllBecome (r ∷ rs) [] = ⊥

one_becomes : (rs : List ℤ) (vs : List TrueValue) (n : ℕ) → AllBecome rs vs → Becomes (get_or rs n (pos 0)) (get_or vs n undefined)
one_becomes [] [] n w = refl
one_becomes (r ∷ rs) (v ∷ vs) zero w = w.0
one_becomes (r ∷ rs) (v ∷ vs) (suc n) w = one_becomes rs vs n w.1
one_becomes [] (v ∷ vs) n w = absurd w
one_becomes (r ∷ rs) [] n w = absurd w

quotient_becomes : (b c : ℤ) → Becomes (clip (quotient b c)) (divided b c)
unfolding quotient
quotient_becomes b (pos zero) = (clip_nearest (pos 0)).kept (record { low = le_z_yes tt; high = le_z_yes tt })
quotient_becomes b (pos (suc d)) = refl
quotient_becomes b (negsuc d) = refl

module _ (n : ℕ) {b c age : ℤ} (wb : InRange b) (wc : InRange c) (wa : InRange age) where
  kept : {z : ℤ} → InRange z → z ≡ clip z
  kept {z} w = sym ((clip_nearest z).kept w)

  pub result_becomes : Becomes (operation n b c age) (true_value n b c age)
  unfolding operation true_value least greatest
  result_becomes =
      one_becomes (operations b c age) (true_values b c age) n (
        kept wb,
        (
          refl,
          (
            refl,
            (
              refl,
              (
                refl,
                (
                  quotient_becomes b c,
                  (
                    kept (by_choose InRange (lt_z c b) _ _ (λ _. wc) (λ _. wb)),
                    (kept (by_choose InRange (lt_z b c) _ _ (λ _. wc) (λ _. wb)), (kept wa, tt)),
                  ),
                ),
              ),
            ),
          ),
        ),
      )

  module _ {z : ℤ} (e : true_value n b c age ≡ exactly z) where
    pub operation_clips : operation n b c age ≡ clip z
    operation_clips = subst (Becomes (operation n b c age)) e result_becomes

    -- a true value in the range is told, and is told to be true; one beyond it is not
    pub in_range_true : InRange z → is_true n b c age ≡ true
    in_range_true w = means_true n b c age (e ∙ ap exactly (kept w ∙ sym operation_clips))

    pub true_in_range : is_true n b c age ≡ true → InRange z
    true_in_range t = subst InRange (same (sym (true_means n b c age t) ∙ e)) (operation_in_range n wb wc wa)
      where
        or_zero : TrueValue → ℤ
        or_zero (exactly y) = y
        or_zero undefined = pos 0

        same : exactly (operation n b c age) ≡ exactly z → operation n b c age ≡ z
        same h = ap or_zero h

-- ---- no true value: a division by zero, and nothing else
pub undefined_untrue : (n : ℕ) (b c age : ℤ) → true_value n b c age ≡ undefined → is_true n b c age ≡ false
unfolding outcome
undefined_untrue n b c age e = rw e

pub zero_divisor : (b age : ℤ) → true_value 5 b (pos 0) age ≡ undefined
unfolding true_value
zero_divisor b age = refl

abbrev is_undefined : TrueValue → Bool
is_undefined (exactly z) = false
is_undefined undefined = true

other : {A : Type 0} {z : ℤ} → exactly z ≡ undefined → A
other e = clash (ap is_undefined e)

by_zero_alone : (b c : ℤ) → divided b c ≡ undefined → c ≡ pos 0
by_zero_alone b (pos zero) e = refl
by_zero_alone b (pos (suc d)) e = other e
by_zero_alone b (negsuc d) e = other e

pub undefined_division : (n : ℕ) (b c age : ℤ) → n ≤ 8 → true_value n b c age ≡ undefined → (n ≡ 5) × (c ≡ pos 0)
unfolding true_value
undefined_division zero b c age l e = other e
undefined_division (suc zero) b c age l e = other e
undefined_division (suc (suc zero)) b c age l e = other e
undefined_division (suc (suc (suc zero))) b c age l e = other e
undefined_division (suc (suc (suc (suc zero)))) b c age l e = other e
undefined_division (suc (suc (suc (suc (suc zero))))) b c age l e = (refl, by_zero_alone b c e)
undefined_division (suc (suc (suc (suc (suc (suc zero)))))) b c age l e = other e
undefined_division (suc (suc (suc (suc (suc (suc (suc zero))))))) b c age l e = other e
undefined_division (suc (suc (suc (suc (suc (suc (suc (suc zero)))))))) b c age l e = other e
undefined_division (suc (suc (suc (suc (suc (suc (suc (suc (suc n))))))))) b c age l e = absurd (omega arith)
