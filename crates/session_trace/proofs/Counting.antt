-- A number read digit by digit, over plain variables.
use mathlib.Core.Path.{◌≡◌, refl, sym, ap, ◌∙◌}
use mathlib.Core.List.{List}
use mathlib.Core.Bool.{true, false}
use Prim.Native.Nat.{ℕ, ◌+◌, ◌*◌, ◌-◌, ◌^◌, ◌≤◌, ◌<◌}
use native.Mathlib.Nat.{pow-succ'}
use native.Mathlib.Numerals.{add-one}
use native.Mathlib.Omega.{arith}
use lib.Dec.{leb}
use lib.ListN.{length, get_or}
use borrow.Author.Tests.{eq-eqb, ne_eqb, lt-ltb, le-ltb, leb-true}
use Rattle.rules_walks.proofs.laws.Pick.{both_left, both_right}
use Rattle.rules_walks.specs.All.{all_to}
use Rattle.rules_walks.proofs.laws.All.{all_none, all_more, all_stop}
use Rattle.std.specs.Prelude.{Some, None}
use Rattle.session_trace.specs.Number.{is_decimal, number_to, decimal_at, number_of}
use Rattle.session_trace.proofs.Decimal.{power_grows}

pub decimal_most : (c : ℕ) → is_decimal c ≡ true → (48 ≤ c) × (c ≤ 57)
unfolding is_decimal
decimal_most c e = (leb-true 48 c (both_left (leb 48 c) (leb c 57) e), leb-true c 57 (both_right (leb 48 c) (leb c 57) e))

module _ (L : List ℕ) where
  -- the first i characters are digits and count n
  pub record Counted (i n : ℕ) : Type 0 where
    pub counts : n ≡ number_to L i
    pub small : n < 10 ^ i
    pub all : all_to (decimal_at L) i ≡ true

  pub counted_none : Counted 0 0
  unfolding number_to
  counted_none = record { counts = refl; small = omega arith; all = all_none (decimal_at L) }

  -- one more fits
  pub counted_fits : {i n : ℕ} → Counted i n → i < 18 → n < 100000000000000000
  counted_fits {i} w l = let h = w.small in let p = power_grows i 17 (omega arith) in omega arith

  pub counted_more : {i n b d : ℕ} → Counted i n → b ≡ get_or L i 0 → is_decimal b ≡ true → d ≡ b - 48 → Counted (i + 1) (n * 10 + d)
  unfolding number_to decimal_at
  counted_more {i} {n} {b} w q e f =
      let m = decimal_most b e in
      let h = m.1 in
      let g = m.0 in
      let p = pow-succ' 10 i in
      let s = w.small in
      record {
        counts = rw (add-one i) (λ t. w.counts t * 10 + (f ∙ ap (λ (x : ℕ). x - 48) q) t);
        small = rw (add-one i) (omega arith);
        all = all_more (decimal_at L) i w.all (ap is_decimal (sym q) ∙ e);
      }

  -- ---- what is answered
  pub number_none : length L ≡ 0 → None ≡ number_of L
  unfolding number_of
  number_none e = rw (eq-eqb (length L) 0 e)

  pub number_long : (length L ≡ 0 → ⊥) → 18 < length L → None ≡ number_of L
  unfolding number_of
  number_long n l = rw (ne_eqb (length L) 0 n, lt-ltb 18 (length L) l)

  pub number_bad : {i b : ℕ} → (length L ≡ 0 → ⊥) → length L ≤ 18 → i < length L → b ≡ get_or L i 0 → is_decimal b ≡ false → None ≡ number_of L
  unfolding number_of decimal_at
  number_bad {i} n l h q e = rw (ne_eqb (length L) 0 n, le-ltb 18 (length L) l, all_stop (decimal_at L) (length L) i h (ap is_decimal (sym q) ∙ e))

  pub number_is : {i n : ℕ} → (length L ≡ 0 → ⊥) → length L ≤ 18 → length L ≡ i → Counted i n → Some n ≡ number_of L
  unfolding number_of
  number_is {i} {n} m l e w =
      let a : all_to (decimal_at L) (length L) ≡ true = ap (all_to (decimal_at L)) e ∙ w.all in
      let c : n ≡ number_to L (length L) = w.counts ∙ ap (number_to L) (sym e) in
      rw (ne_eqb (length L) 0 m, le-ltb 18 (length L) l, a) (ap Some c)
