-- Laws of counts.
use Rattle.std.specs.Prelude.{◌≡◌, Bool, true, false}
use Rattle.std.proofs.Math.Path.{refl}
use Rattle.std.proofs.Math.Logic.{⊎_elim}
use Prim.Native.Nat.{ℕ, zero, suc, ◌+◌, ◌≤◌, ◌<◌}
use Rattle.std.proofs.Common.{eq-or-lt_of_le, le_of_suc-le-suc, add-one}
use native.Mathlib.Omega.{arith}
use Rattle.rules_walks.specs.Pick.{pick}
use Rattle.rules_walks.proofs.laws.Pick.{by_test, test_cases}
use Rattle.rules_walks.specs.Count.{count_if}

module _ (p : ℕ → Bool) where
  pub count_none : count_if p 0 ≡ 0
  unfolding count_if
  count_none = refl

  pub count_next : (n : ℕ) → count_if p (n + 1) ≡ pick (p n) (count_if p n + 1) (count_if p n)
  unfolding count_if
  count_next n = rw (add-one n) refl

  pub count_hit : (n : ℕ) → p n ≡ true → count_if p (n + 1) ≡ count_if p n + 1
  count_hit n e = rw (count_next n, e)

  pub count_miss : (n : ℕ) → p n ≡ false → count_if p (n + 1) ≡ count_if p n
  count_miss n e = rw (count_next n, e)

  pub count_le : (n : ℕ) → count_if p n ≤ n
  unfolding count_if
  count_le zero = omega arith
  count_le (suc n) =
      let h = count_le n in
      by_test (λ (m : ℕ). m ≤ suc n) (p n) _ _ (λ _. omega arith) (λ _. omega arith)

  count_grows : (n : ℕ) → count_if p n ≤ count_if p (suc n)
  unfolding count_if
  count_grows n = by_test (λ (m : ℕ). count_if p n ≤ m) (p n) _ _ (λ _. omega arith) (λ _. omega arith)

  -- a longer walk never counts less
  pub count_mono : (m n : ℕ) → m ≤ n → count_if p m ≤ count_if p n
  count_mono m zero l = let e : m ≡ 0 = omega arith in rw e (omega arith)
  count_mono m (suc n) l =
      ⊎_elim (λ e. rw e (omega arith))
      (λ lt. let h = count_mono m n (le_of_suc-le-suc lt) in let g = count_grows n in omega arith)
      (eq-or-lt_of_le l)

  -- a number that passes is counted by every walk past it
  pub count_past : (i n : ℕ) → i < n → p i ≡ true → count_if p i < count_if p n
  count_past i n l e = let h = count_mono (i + 1) n (omega arith) in let g = count_hit i e in omega arith

  pub count_all : (n : ℕ) → ((i : ℕ) → i < n → p i ≡ true) → count_if p n ≡ n
  unfolding count_if
  count_all zero h = refl
  count_all (suc n) h = rw (h n (omega arith), count_all n (λ i l. h i (omega arith))) (add-one n)

  -- numbers from m on that do not pass add nothing
  pub count_rest : (m n : ℕ) → m ≤ n → ((i : ℕ) → m ≤ i → i < n → p i ≡ false) → count_if p n ≡ count_if p m
  unfolding count_if
  count_rest m zero l h = let e : m ≡ 0 = omega arith in rw e refl
  count_rest m (suc n) l h =
      ⊎_elim (λ e. rw e refl)
      (λ lt. rw (h n (le_of_suc-le-suc lt) (omega arith)) (count_rest m n (le_of_suc-le-suc lt) (λ i a b. h i a (omega arith))))
      (eq-or-lt_of_le l)

pub count_same : (p q : ℕ → Bool) (n : ℕ) → ((i : ℕ) → i < n → p i ≡ q i) → count_if p n ≡ count_if q n
unfolding count_if
count_same p q zero h = refl
count_same p q (suc n) h = rw (count_same p q n (λ i l. h i (omega arith)), h n (omega arith))

-- what passes in a stretch is at most what passes up to its end
pub count_within : (p q : ℕ → Bool) (first n : ℕ) → ((i : ℕ) → i < n → p i ≡ true → q (first + i) ≡ true) → count_if p n ≤ count_if q (first + n)
count_within p q first zero h = rw (count_none p) (omega arith)
count_within p q first (suc n) h =
    let l = count_within p q first n (λ i a. h i (omega arith)) in
    let m = count_mono q (first + n) (first + (n + 1)) (omega arith) in
    rw (← add-one n)
    (⊎_elim
    (λ e. let a = count_hit p n e in let b = count_past q (first + n) (first + (n + 1)) (omega arith) (h n (omega arith) e) in omega arith)
    (λ e. let a = count_miss p n e in omega arith) (test_cases (p n)))
