-- Laws of lists put together: which of them matter, and how long they are.
use Rattle.std.specs.Prelude.{◌≡◌, List, [], ◌++◌, Bool, false, length}
use Rattle.std.proofs.Math.Path.{refl}
use Rattle.std.proofs.Common.{ap, ◌∙◌, append-nil, eq-or-lt_of_le, le_of_suc-le-suc, add-one, length-append}
use Rattle.std.proofs.Math.Logic.{⊎_elim}
use Prim.Native.Nat.{ℕ, zero, suc, ◌+◌, ◌≤◌, ◌<◌}
use native.Mathlib.Omega.{arith}
use Rattle.rules_walks.specs.Count.{count_if}
use Rattle.rules_walks.proofs.laws.Count.{count_hit, count_miss}
use Rattle.rules_walks.proofs.laws.Pick.{test_cases}
use Rattle.rules_traces.specs.Gather.{gather}

module _ {A : Type 0} (f : ℕ → List A) where
  pub gather_none : gather f 0 ≡ []
  unfolding gather
  gather_none = refl

  pub gather_next : (n : ℕ) → gather f (n + 1) ≡ gather f n ++ f n
  unfolding gather
  gather_next n = rw (add-one n) refl

  -- lists from m on that are empty add nothing
  pub gather_rest : (m n : ℕ) → m ≤ n → ((i : ℕ) → m ≤ i → i < n → f i ≡ []) → gather f n ≡ gather f m
  unfolding gather
  gather_rest m zero l h = let e : m ≡ 0 = omega arith in rw e refl
  gather_rest m (suc n) l h =
      ⊎_elim (λ e. rw e refl)
      (λ lt. rw (h n (le_of_suc-le-suc lt) (omega arith)) (append-nil (gather f n) ∙ gather_rest m n (le_of_suc-le-suc lt) (λ i a b. h i a (omega arith))))
      (eq-or-lt_of_le l)

  -- none, or only one, that is not empty
  pub gather_empty : (n : ℕ) → ((i : ℕ) → i < n → f i ≡ []) → gather f n ≡ []
  gather_empty n h = gather_rest 0 n (omega arith) (λ i _ l. h i l) ∙ gather_none

  pub gather_one : (k n : ℕ) → k < n → ((i : ℕ) → i < n → (i ≡ k → ⊥) → f i ≡ []) → gather f n ≡ f k
  gather_one k n l h =
      gather_rest (k + 1) n (omega arith) (λ i a b. h i b (λ e. omega arith))
      ∙ gather_next k
      ∙ ap (λ (x : List A). x ++ f k) (gather_empty k (λ i b. h i (omega arith) (λ e. omega arith)))

-- lists that agree
pub gather_same : {A : Type 0} (f g : ℕ → List A) (n : ℕ) → ((i : ℕ) → i < n → f i ≡ g i) → gather f n ≡ gather g n
unfolding gather
gather_same f g zero h = refl
gather_same f g (suc n) h = rw (gather_same f g n (λ i l. h i (omega arith)), h n (omega arith))

-- lists of one at most, and of none where p fails, are no more than pass p
pub gather_most : {A : Type 0} (f : ℕ → List A) (p : ℕ → Bool) (n : ℕ) → ((i : ℕ) → i < n → length (f i) ≤ 1) → ((i : ℕ) → i < n → p i ≡ false → f i ≡ [])
    → length (gather f n) ≤ count_if p n
gather_most f p zero one none = rw (gather_none f) (omega arith)
gather_most f p (suc n) one none =
    let q = gather_most f p n (λ i l. one i (omega arith)) (λ i l. none i (omega arith)) in
    rw (← add-one n, gather_next f n, length-append)
    (⊎_elim (λ e. let a = count_hit p n e in let b = one n (omega arith) in omega arith)
    (λ e. let a = count_miss p n e in let b : length (f n) ≡ 0 = ap length (none n (omega arith) e) in omega arith) (test_cases (p n)))
