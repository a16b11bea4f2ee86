-- Laws of the shut choice.
use Rattle.std.specs.Prelude.{◌≡◌, Bool}
use Rattle.std.proofs.Math.Path.{refl}
use Rattle.std.proofs.Math.Bool.{true, false}
use Rattle.rules_walks.specs.Choose.{choose}

module _ {ℓ} {A : Type ℓ} where
  pub choose_true : (t : Bool) (a b : A) → t ≡ true → choose t a b ≡ a
  unfolding choose
  choose_true t a b e = rw e

  pub choose_false : (t : Bool) (a b : A) → t ≡ false → choose t a b ≡ b
  unfolding choose
  choose_false t a b e = rw e

  pub choose_same : (t : Bool) (a : A) → choose t a a ≡ a
  unfolding choose
  choose_same true a = refl
  choose_same false a = refl

  -- what holds of each choice where it is made holds of what is chooseed
  pub by_choose {ℓ'} : (P : A → Type ℓ') (t : Bool) (a b : A) → (t ≡ true → P a) → (t ≡ false → P b) → P (choose t a b)
  unfolding choose
  by_choose P true a b f g = f refl
  by_choose P false a b f g = g refl
