-- Laws of walks: a loop's invariant is one equation, and two walks can be one.
use Rattle.std.specs.Prelude.{◌≡◌}
use Rattle.std.proofs.Math.Path.{refl, ap}
use Rattle.std.proofs.Common.{◌∙◌, arith}
use Prim.Native.Nat.{ℕ, zero, suc, ◌+◌, ◌<◌}
use Rattle.std.proofs.Math.Numerals.{add-one}
use Rattle.rules_walks.specs.Walk.{up_to}

module _ {ℓ} {A : Type ℓ} where
  -- a loop that makes the walk: before its first turn, over a turn, at its end
  pub up_to_none : (f : ℕ → A → A) (s : A) → s ≡ up_to f 0 s
  unfolding up_to
  up_to_none f s = refl

  pub up_to_next : (f : ℕ → A → A) (j : ℕ) (s : A) → up_to f (j + 1) s ≡ f j (up_to f j s)
  unfolding up_to
  up_to_next f j s = rw add-one

  pub up_to_more : (f : ℕ → A → A) (j : ℕ) (s₀ s s' : A) → s ≡ up_to f j s₀ → s' ≡ f j s → s' ≡ up_to f (j + 1) s₀
  up_to_more f j s₀ s s' p q = rw up_to_next (q ∙ ap (f j) p)

  pub up_to_end : (f : ℕ → A → A) (j n : ℕ) (s₀ s : A) → s ≡ up_to f j s₀ → j ≡ n → s ≡ up_to f n s₀
  up_to_end f j n s₀ s p q = rw (← q) p

  -- steps that agree make the same walk
  pub up_to_same : (f g : ℕ → A → A) (n : ℕ) (s : A) → ((j : ℕ) → j < n → (x : A) → f j x ≡ g j x) → up_to f n s ≡ up_to g n s
  unfolding up_to
  up_to_same f g zero s h = refl
  up_to_same f g (suc n) s h = h n (omega arith) (up_to f n s) ∙ ap (g n) (up_to_same f g n s (λ j l x. h j (omega arith) x))

  -- what each step carries on, from what j steps gave to what j + 1 give, holds after the walk
  pub up_to_carries {ℓ'} : (P : ℕ → A → Type ℓ') (f : ℕ → A → A) (n : ℕ) (s : A) → ((j : ℕ) → j < n → (x : A) → P j x → P (suc j) (f j x)) → P 0 s → P n (up_to f n s)
  unfolding up_to
  up_to_carries P f zero s h p = p
  up_to_carries P f (suc n) s h p = h n (omega arith) (up_to f n s) (up_to_carries P f n s (λ j l x. h j (omega arith) x) p)

  -- what each step keeps, the walk keeps
  pub up_to_keeps {ℓ'} : (P : A → Type ℓ') (f : ℕ → A → A) (n : ℕ) (s : A) → ((j : ℕ) → j < n → (x : A) → P x → P (f j x)) → P s → P (up_to f n s)
  up_to_keeps P f n s h p = up_to_carries (λ (j : ℕ) (x : A). P x) f n s h p

  -- a step that can change places with each step of a walk can be made before it
  pub up_to_past : (h : A → A) (g : ℕ → A → A) (n : ℕ) (s : A) → ((k : ℕ) → k < n → (x : A) → h (g k x) ≡ g k (h x)) → h (up_to g n s) ≡ up_to g n (h s)
  unfolding up_to
  up_to_past h g zero s c = refl
  up_to_past h g (suc n) s c = c n (omega arith) (up_to g n s) ∙ ap (g n) (up_to_past h g n s (λ k l x. c k (omega arith) x))

  -- one walk with both steps at each number is the first walk and then the second, where each step of the first can change places with the earlier steps of the second
  pub up_to_both : (f g : ℕ → A → A) (n : ℕ) (s : A) → ((j k : ℕ) → j < n → k < j → (x : A) → f j (g k x) ≡ g k (f j x)) → up_to (λ (j : ℕ) (x : A). g j (f j x)) n s ≡ up_to g n (up_to f n s)
  unfolding up_to
  up_to_both f g zero s c = refl
  up_to_both f g (suc n) s c =
      ap (g n)
      (ap (f n) (up_to_both f g n s (λ j k l m x. c j k (omega arith) m x)) ∙ up_to_past (f n) g n (up_to f n s) (λ k l x. c n k (omega arith) l x))
