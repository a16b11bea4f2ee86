-- Laws of the first number that passes, for loops; and what an answer means.
use Rattle.std.specs.Prelude.{◌≡◌, refl, Bool, ℕ, zero, suc, ◌+◌, ◌-◌, ◌<◌, ◌≤◌}
use Rattle.std.proofs.Common.{sym, ◌∙◌, eq-or-lt_of_le, arith}
use Rattle.std.proofs.Math.Path.{ap}
use Rattle.std.proofs.Math.Bool.{true, false}
use Rattle.std.proofs.Math.Logic.{⊎_elim}
use Rattle.std.proofs.Math.Nat.{sub-zero}
use Rattle.rules_walks.proofs.laws.Pick.{clash}
use Rattle.rules_walks.specs.Choose.{choose}
use Rattle.rules_walks.specs.First.{Sought, one, missing, first_from, first_below, First}

-- ---- the first: a loop that looks at j, with the numbers from j to n - 1 left
pub first_start : (p : ℕ → Bool) (n : ℕ) → first_below p n ≡ first_from p 0 (n - 0)
first_start p n = rw sub-zero

module _ (p : ℕ → Bool) (j n : ℕ) where
  more : j < n → n - j ≡ suc (n - (j + 1))
  more h = omega arith

  pub first_skip : j < n → p j ≡ false → first_from p j (n - j) ≡ first_from p (j + 1) (n - (j + 1))
  unfolding first_from choose
  first_skip h q = rw (more h, q)

  pub first_hit : j < n → p j ≡ true → first_from p j (n - j) ≡ one j
  unfolding first_from choose
  first_hit h q = rw (more h, q)

  none_left : n ≤ j → n - j ≡ 0
  none_left h = omega arith

  pub first_none : n ≤ j → first_from p j (n - j) ≡ missing
  unfolding first_from
  first_none h = rw (none_left h)

apart : {a : ℕ} → missing ≡ one a → ⊥
apart q = let z : ◌≡◌ {A = ℕ} 0 1 = cc in omega arith

-- at j, or after it
module _ (p : ℕ → Bool) (j : ℕ) where
  at_or_after : p j ≡ false → (i : ℕ) → j ≤ i → (j + 1 ≤ i → p i ≡ false) → p i ≡ false
  at_or_after z i l h = ⊎_elim (λ e. ap p (sym e) ∙ z) (λ lt. h (omega arith)) (eq-or-lt_of_le l)

  met : (k v : ℕ) (t : Bool) {r : Sought} → p j ≡ t → choose t (one j) r ≡ one v → (r ≡ one v → First p (j + 1) k v) → First p j (suc k) v
  unfolding choose
  met k v true z q h =
      let e : j ≡ v = cc in
      record { from = omega arith; below = omega arith; passes = ap p (sym e) ∙ z; least = λ i a b. absurd (omega arith) }
  met k v false z q h =
      let w = h q in
      record { from = omega arith; below = omega arith; passes = w.passes; least = λ i a b. at_or_after z i a (λ l. w.least i l b) }

  aim : (k v : ℕ) (w : First p j (suc k) v) (t : Bool) {r : Sought} → p j ≡ t → (First p (j + 1) k v → r ≡ one v) → choose t (one j) r ≡ one v
  unfolding choose
  aim k v w true z h = ⊎_elim (λ e. ap one e) (λ l. clash (sym (w.least j (omega arith) l) ∙ z)) (eq-or-lt_of_le w.from)
  aim k v w false z h =
      ⊎_elim (λ e. clash (sym (ap p (sym e) ∙ z) ∙ w.passes))
      (λ l. h (record { from = omega arith; below = omega arith; passes = w.passes; least = λ i a b. w.least i (omega arith) b }))
      (eq-or-lt_of_le w.from)

  lost : (k : ℕ) (t : Bool) {r : Sought} → p j ≡ t → choose t (one j) r ≡ missing → (r ≡ missing → (i : ℕ) → j + 1 ≤ i → i < j + 1 + k → p i ≡ false) → (i : ℕ) → j ≤ i → i < j + suc k → p i ≡ false
  unfolding choose
  lost k true z q h i a b = absurd (apart (sym q))
  lost k false z q h i a b = at_or_after z i a (λ l. h q i l (omega arith))

pub first_means : (p : ℕ → Bool) (j k v : ℕ) → first_from p j k ≡ one v → First p j k v
unfolding first_from
first_means p j zero v e = absurd (apart e)
first_means p j (suc k) v e = met p j k v (p j) refl e (first_means p (j + 1) k v)

pub first_in : (p : ℕ → Bool) (j k v : ℕ) → first_from p j k ≡ one v → v < j + k
first_in p j k v e = (first_means p j k v e).below

pub first_true : (p : ℕ → Bool) (j k v : ℕ) → first_from p j k ≡ one v → p v ≡ true
first_true p j k v e = (first_means p j k v e).passes

pub first_least : (p : ℕ → Bool) (j k v : ℕ) → first_from p j k ≡ one v → (i : ℕ) → j ≤ i → i < v → p i ≡ false
first_least p j k v e = (first_means p j k v e).least

-- the way back: there is no other answer
pub first_is : (p : ℕ → Bool) (j k v : ℕ) → First p j k v → first_from p j k ≡ one v
unfolding first_from
first_is p j zero v w = absurd (let h = w.from in let l = w.below in omega arith)
first_is p j (suc k) v w = aim p j k v w (p j) refl (first_is p (j + 1) k v)

pub first_missing : (p : ℕ → Bool) (j k : ℕ) → first_from p j k ≡ missing → (i : ℕ) → j ≤ i → i < j + k → p i ≡ false
unfolding first_from
first_missing p j zero e i a b = absurd (omega arith)
first_missing p j (suc k) e i a b = lost p j k (p j) refl e (first_missing p (j + 1) k) i a b

-- ---- tests that agree find the same
pub first_same : (p q : ℕ → Bool) (j k : ℕ) → ((i : ℕ) → j ≤ i → i < j + k → p i ≡ q i) → first_from p j k ≡ first_from q j k
unfolding first_from
first_same p q j zero h = refl
first_same p q j (suc k) h = λ t. choose (h j (omega arith) (omega arith) t) (one j) (first_same p q (j + 1) k (λ i a b. h i (omega arith) (omega arith)) t)
