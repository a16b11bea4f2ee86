-- The digits that `io::decimal` puts are the decimal digits of the number.
use mathlib.Core.Path.{◌≡◌, refl, sym, ap, ◌∙◌, subst}
use mathlib.Core.List.{List, [], ◌∷◌, ◌++◌}
use mathlib.Core.Logic.{⊎_elim}
use Prim.Native.Nat.{ℕ, zero, suc, ◌+◌, ◌-◌, ◌/◌, ◌%◌, ◌^◌, ◌≤◌, ◌<◌}
use native.Mathlib.Nat.{pow-succ', eq-or-lt_of_le, le_of_suc-le-suc}
use native.Mathlib.Omega.{arith}
use lib.Dec.{ltb}
use lib.ListN.{length, take}
use borrow.Author.Tests.{lt-ltb, le-ltb}
use Rattle.io.specs.Digits.{hex_digit_ascii, last_digits, IsDigitCount}
use Rattle.rules_walks.proofs.laws.Choose.{choose_true, choose_false}
use Rattle.rules_walks.proofs.laws.Pick.{tri}
use Rattle.rules_shows.specs.Words.{decimal_to, decimal, signed, codes}
use Rattle.lines.specs.Printed.{Printed}
use Rattle.session_trace.proofs.Printing.{prints_is, prints_then}

glyph_is : (d : ℕ) → d < 10 → hex_digit_ascii d ≡ 48 + d
glyph_is d h = rw (lt-ltb d 10 h) refl

some_power : (k : ℕ) → 0 < 10 ^ k
some_power zero = omega arith
some_power (suc k) = let e = pow-succ' 10 k in let h = some_power k in omega arith

pub power_grows : (m n : ℕ) → m ≤ n → 10 ^ m ≤ 10 ^ n
power_grows m zero l = let e : m ≡ 0 = omega arith in rw e (omega arith)
power_grows m (suc n) l =
    let p = pow-succ' 10 n in
    let s = some_power n in
    ⊎_elim (λ e. rw e (omega arith)) (λ lt. let h = power_grows m n (le_of_suc-le-suc lt) in omega arith) (eq-or-lt_of_le l)

-- a number below 2^64 has at most 20 digits
pub few_digits : (n k : ℕ) → n < 18446744073709551616 → IsDigitCount 10 1 n k → k ≤ 20
few_digits n k l w = ⊎_elim (λ h. omega arith) (⊎_elim (λ e. omega arith) (λ g. absurd (many g))) (tri k 20)
  where
    many : 20 < k → ⊥
    many g = let a : 10 ^ (k - 1) ≤ n = w.2 (omega arith) in let b : 10 ^ 20 ≤ 10 ^ (k - 1) = power_grows 20 (k - 1) (omega arith) in omega arith

-- one digit
one_digit : (f n : ℕ) → n < 10 → decimal_to (suc f) n ≡ (48 + n) ∷ []
unfolding decimal_to
one_digit f n h = choose_true (ltb n 10) _ _ (lt-ltb n 10 h)

-- and one more
more_digits : (f n : ℕ) → 10 ≤ n → decimal_to (suc f) n ≡ decimal_to f (n / 10) ++ ((48 + n % 10) ∷ [])
unfolding decimal_to
more_digits f n h = choose_false (ltb n 10) _ _ (le-ltb n 10 h)

digits_are : (f k n : ℕ) → k ≤ f → IsDigitCount 10 1 n k → last_digits 10 k n ≡ decimal_to f n
digits_are f zero n l w = absurd (let h = w.0 in omega arith)
digits_are zero (suc k) n l w = absurd (omega arith)
digits_are (suc f) (suc zero) n l w =
    let h : n < 10 = let x = w.1 in let e = pow-succ' 10 0 in omega arith in
    let e : n % 10 ≡ n = omega arith in
    rw (e) (ap (λ (d : ℕ). d ∷ []) (glyph_is n h) ∙ sym (one_digit f n h))
digits_are (suc f) (suc (suc k)) n l w =
    let p = pow-succ' 10 k in
    let q = pow-succ' 10 (suc k) in
    let s = some_power k in
    let a = w.1 in
    let two : suc (suc k) - 1 ≡ suc k = omega arith in
    let one : suc k - 1 ≡ k = omega arith in
    let b : 10 ^ suc k ≤ n = subst (λ (j : ℕ). 10 ^ j ≤ n) two (w.2 (omega arith)) in
    let c : 10 ^ k ≤ n / 10 = omega arith in
    let fewest : IsDigitCount 10 1 (n / 10) (suc k) = (omega arith, omega arith, λ _. subst (λ (j : ℕ). 10 ^ j ≤ n / 10) (sym one) c) in
    (λ t. digits_are f (suc k) (n / 10) (omega arith) fewest t ++ (glyph_is (n % 10) (omega arith) t ∷ [])) ∙ sym (more_digits f n (omega arith))

pub number_told : (n k : ℕ) (D : List ℕ) {at r : ℕ} {t t' : List ℕ} → n < 18446744073709551616 → k ≡ length (take k D) → IsDigitCount 10 1 n k → take k D ≡ last_digits 10 k n
    → Printed (take k D) at (at + length (take k D)) r t t' → Printed (decimal n) at (at + 20) r t t'
unfolding decimal
number_told n k D {at} l e w q u = let h = few_digits n k l w in prints_is (at + 20) (q ∙ digits_are 20 k n h w) (omega arith) u

-- ---- signed
pub signed_plain : (w : ℕ) {at m r : ℕ} {t t' : List ℕ} → w < 2147483648 → m ≤ at + 21 → Printed (decimal w) at m r t t' → Printed (signed w) at (at + 21) r t t'
unfolding signed
signed_plain w {at} h l u = prints_is (at + 21) (sym (choose_true (ltb w 2147483648) _ _ (lt-ltb w 2147483648 h))) l u

pub signed_negative : (w : ℕ) {at m n p r : ℕ} {t t₁ t' : List ℕ} → 2147483648 ≤ w → n ≤ at + 21 → Printed (codes "-") at m p t t₁ → Printed (decimal (4294967296 - w)) p n r t₁ t'
    → Printed (signed w) at (at + 21) r t t'
unfolding signed
signed_negative w {at} h l u v =
    prints_is (at + 21) (sym (choose_false (ltb w 2147483648) _ _ (le-ltb w 2147483648 h))) l (prints_then u v)
