-- Laws of tests below a bound, for loops that stop at the first case; and what an answer means.
use Rattle.std.specs.Prelude.{◌≡◌, Bool, true, false}
use Rattle.std.proofs.Math.Path.{refl, ap}
use Rattle.std.proofs.Common.{sym, ◌∙◌, eq-or-lt_of_le, le_of_suc-le-suc, not-suc-le-zero, arith, add-one}
use Rattle.std.proofs.Math.Logic.{⊎_elim}
use Prim.Native.Nat.{ℕ, zero, suc, ◌+◌, ◌≤◌, ◌<◌}
use Rattle.rules_walks.specs.Pick.{both, either}
use Rattle.rules_walks.proofs.laws.Pick.{both_false, both_left, both_right, either_true, either_cases, clash, tri}
use Rattle.rules_walks.specs.All.{all_to, any_to, Witness}

module _ (p : ℕ → Bool) where
  pub all_none : all_to p 0 ≡ true
  unfolding all_to
  all_none = refl

  pub all_next : (n : ℕ) → all_to p (n + 1) ≡ both (all_to p n) (p n)
  unfolding all_to
  all_next n = rw (add-one n) refl

  pub all_more : (n : ℕ) → all_to p n ≡ true → p n ≡ true → all_to p (n + 1) ≡ true
  all_more n h e = rw (all_next n, h, e)

  pub all_stop : (n i : ℕ) → i < n → p i ≡ false → all_to p n ≡ false
  unfolding all_to
  all_stop zero i l e = absurd (not-suc-le-zero l)
  all_stop (suc n) i l e =
      ⊎_elim (λ q. ap (both (all_to p n)) (ap p (sym q) ∙ e) ∙ both_false (all_to p n))
      (λ lt. ap (λ (b : Bool). both b (p n)) (all_stop n i lt e)) (eq-or-lt_of_le (le_of_suc-le-suc l))

  pub all_at : (n i : ℕ) → i < n → all_to p n ≡ true → p i ≡ true
  unfolding all_to
  all_at zero i l e = absurd (not-suc-le-zero l)
  all_at (suc n) i l e =
      ⊎_elim (λ q. ap p q ∙ both_right (all_to p n) (p n) e)
      (λ lt. all_at n i lt (both_left (all_to p n) (p n) e)) (eq-or-lt_of_le (le_of_suc-le-suc l))

  pub all_intro : (n : ℕ) → ((i : ℕ) → i < n → p i ≡ true) → all_to p n ≡ true
  unfolding all_to
  all_intro zero h = refl
  all_intro (suc n) h = rw (all_intro n (λ i l. h i (omega arith)), h n (omega arith))

  pub all_less : (n m : ℕ) → m ≤ n → all_to p n ≡ true → all_to p m ≡ true
  all_less n m l h = all_intro m (λ i q. all_at n i (omega arith) h)

  -- where the numbers below m pass, and those from m on too, all do
  pub all_rest : (m n : ℕ) → all_to p m ≡ true → ((i : ℕ) → m ≤ i → i < n → p i ≡ true) → all_to p n ≡ true
  all_rest m n h r = all_intro n (λ i l. ⊎_elim (λ lt. all_at m i lt h) (λ w. r i (⊎_elim (λ e. omega arith) (λ g. omega arith) w) l) (tri i m))

  pub any_none : any_to p 0 ≡ false
  unfolding any_to
  any_none = refl

  pub any_next : (n : ℕ) → any_to p (n + 1) ≡ either (any_to p n) (p n)
  unfolding any_to
  any_next n = rw (add-one n) refl

  pub any_more : (n : ℕ) → any_to p n ≡ false → p n ≡ false → any_to p (n + 1) ≡ false
  any_more n h e = rw (any_next n, h, e)

  pub any_stop : (n i : ℕ) → i < n → p i ≡ true → any_to p n ≡ true
  unfolding any_to
  any_stop zero i l e = absurd (not-suc-le-zero l)
  any_stop (suc n) i l e =
      ⊎_elim (λ q. ap (either (any_to p n)) (ap p (sym q) ∙ e) ∙ either_true (any_to p n))
      (λ lt. ap (λ (b : Bool). either b (p n)) (any_stop n i lt e)) (eq-or-lt_of_le (le_of_suc-le-suc l))

  -- where no number passes, none did
  pub any_at : (n i : ℕ) → i < n → any_to p n ≡ false → p i ≡ false
  any_at n i l e = by (p i) refl
    where
      by : (b : Bool) → p i ≡ b → b ≡ false
      by true q = clash (sym e ∙ any_stop n i l q)
      by false q = refl

  pub any_no : (n : ℕ) → ((i : ℕ) → i < n → p i ≡ false) → any_to p n ≡ false
  unfolding any_to
  any_no zero h = refl
  any_no (suc n) h = rw (any_no n (λ i l. h i (omega arith)), h n (omega arith))

pub any_witness : (p : ℕ → Bool) (n : ℕ) → any_to p n ≡ true → Witness p n
unfolding any_to
any_witness p zero e = clash e
any_witness p (suc n) e =
    ⊎_elim (λ q. let w = any_witness p n q in record { which = w.which; below = let l = w.below in omega arith; passes = w.passes })
    (λ q. record { which = n; below = omega arith; passes = q }) (either_cases (any_to p n) (p n) e)

-- tests that agree below the bound agree there
pub all_same : (p q : ℕ → Bool) (n : ℕ) → ((i : ℕ) → i < n → p i ≡ q i) → all_to p n ≡ all_to q n
unfolding all_to
all_same p q zero h = refl
all_same p q (suc n) h = rw (all_same p q n (λ i l. h i (omega arith)), h n (omega arith))

pub any_same : (p q : ℕ → Bool) (n : ℕ) → ((i : ℕ) → i < n → p i ≡ q i) → any_to p n ≡ any_to q n
unfolding any_to
any_same p q zero h = refl
any_same p q (suc n) h = rw (any_same p q n (λ i l. h i (omega arith)), h n (omega arith))
