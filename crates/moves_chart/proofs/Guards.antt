-- What each case of a guard decides, over plain variables.
use mathlib.Core.Path.{◌≡◌, refl, sym, ap, ◌∙◌}
use mathlib.Core.List.{List}
use mathlib.Core.Bool.{not}
use Prim.Native.Nat.{ℕ, zero, suc}
use lib.IntN.{ℤ}
use lib.Dec.{eqb}
use lib.Signed.{lt_z, le_z}
use mir.Syntax.{w32}
use mir.Val.{SFits, to_z, of_z}
use Rattle.rules_numbers.specs.Equal.{eq_z}
use Rattle.rules_tables.specs.Frame.{flag_at, field_at}
use Rattle.rules_tables.specs.declared.Shape.{Shape}
use Rattle.rules_tables.specs.Ids.{transition_frame}
use Rattle.rules_moves.specs.declared.Guard.{Guard}
use Rattle.rules_moves.specs.declared.Guard.TheVariants.{Equals, Differs, Below, AtMost}
use Rattle.rules_moves.specs.Chart.{guard_holds}
use Rattle.rules_moves.specs.Guard.{guard_of, guard_at, signed_value, holds}
use Rattle.numbers.proofs.laws.Tests.{eq_is, lt_is, le_is}
use Rattle.moves_chart.specs.Narrow.{Narrow}

-- ---- reading a guard, by its number n and the two fields d and e
module _ (T : List ℕ) (f : ℕ) {n d e : ℕ} (number : n ≡ flag_at T f) (left : d ≡ field_at T f 3) (right : e ≡ field_at T f 4) where
  pub reads : guard_of n d e ≡ guard_at T f
  unfolding guard_at
  reads i = guard_of (number i) (left i) (right i)

  pub reads_as : (k : ℕ) → n ≡ k → guard_of k d e ≡ guard_at T f
  reads_as k key = ap (λ m. guard_of m d e) (sym key) ∙ reads

-- a number that is none of 0 to 3 has the last
pub last : (n d e : ℕ) → (n ≡ 0 → ⊥) → (n ≡ 1 → ⊥) → (n ≡ 2 → ⊥) → (n ≡ 3 → ⊥) → AtMost d e ≡ guard_of n d e
unfolding guard_of
last zero d e not-0 not-1 not-2 not-3 = absurd (not-0 refl)
last (suc zero) d e not-0 not-1 not-2 not-3 = absurd (not-1 refl)
last (suc (suc zero)) d e not-0 not-1 not-2 not-3 = absurd (not-2 refl)
last (suc (suc (suc zero))) d e not-0 not-1 not-2 not-3 = absurd (not-3 refl)
last (suc (suc (suc (suc zero)))) d e not-0 not-1 not-2 not-3 = refl
last (suc (suc (suc (suc (suc n))))) d e not-0 not-1 not-2 not-3 = refl

-- ---- deciding: a guard that was read and is h decides as h does
pub narrow : {g h : Guard} → g ≡ h → Narrow g → Narrow h
narrow is n = rw is at n

module _ (T : List ℕ) (S : Shape) (s : List ℕ) {f : ℕ} {g h : Guard} (read : g ≡ guard_at T f) (is : g ≡ h) where
  pub decides : (j : ℕ) → f ≡ transition_frame S j → holds (signed_value S s) h ≡ guard_holds T S s j
  unfolding guard_holds
  decides j e = ap (holds (signed_value S s)) (sym is ∙ read ∙ ap (guard_at T) e)

-- the comparison of two values x and y as the machine makes it is the one that the guard names
module _ (S : Shape) (s : List ℕ) (d e : ℕ) {x y : ℤ} (x_Fits : SFits w32 x) (y-fits : SFits w32 y) (of-d : x ≡ signed_value S s d) (of-e : y ≡ signed_value S s e) where
  pub equals : eqb (of_z w32 x) (of_z w32 y) ≡ holds (signed_value S s) (Equals d e)
  unfolding holds
  equals = eq_is x_Fits y-fits ∙ (λ i. eq_z (of-d i) (of-e i))

  pub differs : not (eqb (of_z w32 x) (of_z w32 y)) ≡ holds (signed_value S s) (Differs d e)
  unfolding holds
  differs = ap not equals

  pub below : lt_z (to_z w32 (of_z w32 x)) (to_z w32 (of_z w32 y)) ≡ holds (signed_value S s) (Below d e)
  unfolding holds
  below = lt_is x_Fits y-fits ∙ (λ i. lt_z (of-d i) (of-e i))

  pub at_most : le_z (to_z w32 (of_z w32 x)) (to_z w32 (of_z w32 y)) ≡ holds (signed_value S s) (AtMost d e)
  unfolding holds
  at_most = le_is x_Fits y-fits ∙ (λ i. le_z (of-d i) (of-e i))
