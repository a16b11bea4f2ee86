-- Laws on signed numbers that several proofs cite: the clip, and what the machine reads of a result.
-- A signed local is bits, so each use of it reads `to_z w (of_z w x)`.
-- Assumes nothing.
use mathlib.Core.Path.{◌≡◌, refl, sym, ap, ◌∙◌}
use Rattle.std.specs.Int.{int_min, int_max}
use Rattle.std.proofs.lemmas.Int.{ints, clamps}
use mathlib.Core.Bool.{Bool, true, false, cond}
use Prim.Native.Nat.{ℕ, ◌≤◌, ◌<◌}
use native.Mathlib.Omega.{arith}
use lib.IntN.{ℤ, pos, negsuc}
use lib.Signed.{mag, lt_z}
use borrow.Author.Tests.{ltb-true, lt-ltb, ne_eqb}
use native.Mathlib.Nat.{not-suc-le-zero}
use Rattle.std.proofs.Common.{⊎_elim}
use mir.Syntax.{w32}
use mir.Val.{SFits, to_z, of_z}
use mir.Facts.{to_z-of_z}
use Rattle.rules_walks.specs.Choose.{choose}
use Rattle.rules_walks.proofs.laws.Choose.{choose_true}
use Rattle.rules_walks.proofs.laws.Pick.{clash, tri}
use Rattle.rules_numbers.specs.Clip.{lowest, highest, clip, least, greatest}
use Rattle.rules_numbers.specs.Truth.{undefined, telling, itself, clipped}
use Rattle.rules_numbers.proofs.laws.Nearest.{clip_pos, clip_negsuc}

-- ---- the clip
pub kept : (z : ℤ) → SFits w32 z → z ≡ clip z
kept (pos n) f = ap pos (omega arith) ∙ sym (clip_pos n)
kept (negsuc n) f = ap negsuc (omega arith) ∙ sym (clip_negsuc n)

-- ---- what is told of a clipped value: out of the range it is an end and not true, else it is itself
past : (n : ℕ) → (n < 2147483648 → ⊥) → 2147483648 ≤ n
past n g = ⊎_elim (λ l. absurd (g l)) (⊎_elim (λ e. omega arith) (λ l. omega arith)) (tri n 2147483648)

pub clipped_low : (z : ℤ) → (SFits w32 z → ⊥) → lt_z z (pos 0) ≡ true → telling lowest undefined ≡ clipped z
unfolding clip
clipped_low (pos n) g e = absurd (not-suc-le-zero (ltb-true n 0 e))
clipped_low (negsuc n) g e =
    let h = past n (λ l. g (record { sfits = l })) in
    rw (choose_true _ _ _ (lt-ltb 2147483647 n h), ne_eqb 2147483647 n (λ q. omega arith))

pub clipped_past : (z : ℤ) → lt_z highest z ≡ true → telling highest undefined ≡ clipped z
unfolding clip choose
clipped_past (pos n) e = rw (lt-ltb 2147483647 n (ltb-true 2147483647 n e), ne_eqb 2147483647 n (λ q. omega (arith, ltb-true 2147483647 n e)))
clipped_past (negsuc n) e = clash e

pub clipped_high : (z : ℤ) → (SFits w32 z → ⊥) → lt_z z (pos 0) ≡ false → telling highest undefined ≡ clipped z
clipped_high (pos n) g e = clipped_past (pos n) (lt-ltb 2147483647 n (past n (λ l. g (record { sfits = l }))))
clipped_high (negsuc n) g e = clash (sym e)

pub clipped_kept : (z : ℤ) → SFits w32 z → itself z ≡ clipped z
clipped_kept z f = rw (← kept z f)

-- a call's result r that was z, as the machine reads it
pub handed : {r z : ℤ} → mag r < 2147483648 → r ≡ z → to_z w32 (of_z w32 r) ≡ z
handed k e = to_z-of_z {w = w32} (record { sfits = k }) ∙ e

-- the greatest of two numbers, either way round
other_way : (x y : ℤ) → int_max x y ≡ int_max y x
other_way x y = omega (arith, ints, clamps)

-- ---- the library's least and greatest are those of the rules
cond_choose : (t : Bool) (a b : ℤ) → cond t a b ≡ choose t a b
unfolding choose
cond_choose true a b = refl
cond_choose false a b = refl

module _ {x y : ℤ} (f : SFits w32 x) (g : SFits w32 y) where
  pub least_is : int_min (to_z w32 (of_z w32 x)) (to_z w32 (of_z w32 y)) ≡ least x y
  unfolding least
  least_is = rw (to_z-of_z f, to_z-of_z g) (cond_choose (lt_z y x) y x)

  pub greatest_is : int_max (to_z w32 (of_z w32 x)) (to_z w32 (of_z w32 y)) ≡ greatest x y
  unfolding greatest
  greatest_is = rw (to_z-of_z f, to_z-of_z g) (other_way x y ∙ cond_choose (lt_z x y) y x)
