-- Division as the machine makes it is division by the definition: at a divisor of 0, at -1, and at any other.
-- Assumes nothing.
use mathlib.Core.Path.{◌≡◌, refl, ap}
use Prim.Native.Nat.{ℕ, zero, suc, ◌/◌, ◌≤◌, zero-le}
use native.Mathlib.Nat.{div-lt_self, div-one, div-le_self}
use native.Mathlib.Omega.{arith}
use lib.IntN.{ℤ, pos, negsuc, neg_ℤ}
use lib.Signed.{mag, quot_z}
use mir.Syntax.{w32}
use mir.Val.{SFits, of_z}
use Rattle.rules_walks.specs.Choose.{choose}
use Rattle.rules_numbers.specs.Clip.{clip, quotient}
use Rattle.rules_numbers.specs.Truth.{exactly, undefined, divided, telling}

word_zero : (z : ℤ) → SFits w32 z → of_z w32 z ≡ 0 → z ≡ pos 0
word_zero (pos n) f e = ap pos e
word_zero (negsuc n) f e = absurd (omega arith)

pub by_zero : {z : ℤ} (b : ℤ) → SFits w32 z → of_z w32 z ≡ 0 → telling (pos 0) undefined ≡ telling (clip (quotient b z)) (divided b z)
unfolding quotient clip choose
by_zero {z} b f e = rw (word_zero z f e)

pub by_other : (b z : ℤ) → (of_z w32 z ≡ 0 → ⊥) → quot_z b z ≡ quotient b z
unfolding quotient
by_other b (pos zero) ne = absurd (ne refl)
by_other (pos a) (pos (suc n)) ne = refl
by_other (negsuc a) (pos (suc n)) ne = refl
by_other (pos a) (negsuc n) ne = refl
by_other (negsuc a) (negsuc n) ne = refl

pub has_quotient : (b z : ℤ) → (of_z w32 z ≡ 0 → ⊥) → exactly (quotient b z) ≡ divided b z
has_quotient b (pos zero) ne = absurd (ne refl)
has_quotient b (pos (suc n)) ne = refl
has_quotient b (negsuc n) ne = refl

-- ---- a quotient of two `i32`: only the lowest number by -1 does not fit
neg_le : (r : ℕ) {a : ℕ} → r ≤ suc a → mag (neg_ℤ (pos r)) ≤ a
neg_le zero h = zero-le
neg_le (suc r) h = omega arith

pub quot32 : (b c : ℤ) → SFits w32 b → SFits w32 c → (of_z w32 c ≡ 4294967295 → ⊥) → SFits w32 (quot_z b c)
quot32 (pos a) (pos b) f g ne = record { sfits = omega (arith, div-le_self a b) }
quot32 (pos a) (negsuc b) f g ne = record { sfits = omega (arith, neg_le (a / suc b) {a = a} (omega (arith, div-le_self a (suc b)))) }
quot32 (negsuc a) (pos b) f g ne = record { sfits = omega (arith, neg_le (suc a / b) {a = a} (div-le_self (suc a) b)) }
quot32 (negsuc a) (negsuc zero) f g ne = absurd (ne refl)
quot32 (negsuc a) (negsuc (suc b)) f g ne = record { sfits = omega (arith, div-lt_self {n = suc a} {k = suc (suc b)} (omega arith) (omega arith)) }

-- a divisor of -1
pub is_minus_one : (c : ℤ) → SFits w32 c → of_z w32 c ≡ 4294967295 → c ≡ negsuc 0
is_minus_one (pos n) f e = absurd (omega arith)
is_minus_one (negsuc n) f e = ap negsuc (omega arith)

pub by_minus_one : (b : ℤ) → quotient b (negsuc 0) ≡ neg_ℤ b
unfolding quotient
by_minus_one (pos a) = ap (λ (n : ℕ). neg_ℤ (pos n)) (div-one a)
by_minus_one (negsuc a) = ap pos (div-one (suc a))
