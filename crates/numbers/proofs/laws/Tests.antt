-- Tests on two `i32`, as the machine makes them: what a signed comparison in the code says of the values.
-- A signed local is bits, so a test of two reads `of_z w (..)`, or `to_z w (of_z w (..))`.
use Rattle.std.specs.Prelude.{◌≡◌, refl, Bool, true, false, suc, ◌-◌, ℤ, pos, negsuc, eqb}
use Rattle.std.proofs.Common.{sym, arith, eqb-true, eq-eqb, ne_eqb, SFits, to_z, of_z, to_z-of_z}
use Rattle.std.specs.Int.Signed.{lt_z, le_z}
use Rattle.std.specs.Int.{w32}
use Rattle.rules_numbers.specs.Equal.{eq_z}

same_bool : (s t : Bool) → (s ≡ true → t ≡ true) → (t ≡ true → s ≡ true) → s ≡ t
same_bool true t f g = sym (f refl)
same_bool false true f g = g refl
same_bool false false f g = refl

eq_words : (d e : ℤ) → SFits w32 d → SFits w32 e → eqb (of_z w32 d) (of_z w32 e) ≡ eq_z d e
eq_words (pos a) (pos b) f g = refl
eq_words (pos a) (negsuc b) f g = ne_eqb a (4294967296 - suc b) (λ e. omega arith)
eq_words (negsuc a) (pos b) f g = ne_eqb (4294967296 - suc a) b (λ e. omega arith)
eq_words (negsuc a) (negsuc b) f g =
    same_bool (eqb (4294967296 - suc a) (4294967296 - suc b)) (eqb a b)
    (λ e. let h = eqb-true (4294967296 - suc a) (4294967296 - suc b) e in eq-eqb a b (omega arith))
    (λ e. let h = eqb-true a b e in eq-eqb (4294967296 - suc a) (4294967296 - suc b) (omega arith))

module _ {d e : ℤ} (f : SFits w32 d) (g : SFits w32 e) where
  pub eq_is : eqb (of_z w32 d) (of_z w32 e) ≡ eq_z d e
  eq_is = eq_words d e f g

  pub lt_is : lt_z (to_z w32 (of_z w32 d)) (to_z w32 (of_z w32 e)) ≡ lt_z d e
  lt_is i = lt_z (to_z-of_z f i) (to_z-of_z g i)

  pub le_is : le_z (to_z w32 (of_z w32 d)) (to_z w32 (of_z w32 e)) ≡ le_z d e
  le_is i = le_z (to_z-of_z f i) (to_z-of_z g i)
