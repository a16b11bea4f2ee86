-- Laws of bits: what a bit that is set leaves at every place.
use Rattle.std.specs.Prelude.{◌≡◌, refl, List, true, false, ◌⊎◌, ℕ, suc, ◌+◌, ◌-◌, ◌/◌, ◌%◌, ◌^◌, ◌≤◌, ◌<◌, max, eqb, length, get_or, set, replicate}
use Rattle.std.proofs.Common.{ap, ◌∙◌, ⊎_elim, one-mul, arith, pow_pos, pow-add, length-set, get_or-set_same, get_or-set_other, eq-eqb}
use Rattle.std.proofs.Math.Nat.{div_self, div-eq_of_lt, mul-div_right, zero-div}
use Rattle.std.specs.Int.Bits.{bit_or, or_step, shifted_even}
use Rattle.std.proofs.lemmas.Nat.{or_shr}
use Rattle.std.proofs.Math.Pow.{pow-lt}
use Rattle.std.proofs.lemmas.List.{length-replicate, get_or-replicate}
use Rattle.std.proofs.Math.ListN.{get_or-eq_default}
use Rattle.rules_walks.proofs.laws.Pick.{tri}
use Rattle.numbers_bits.specs.Bit.{bit_at, raised, in_set, added, Clear}

pub length_added : (m : List ℕ) (i : ℕ) → length (added m i) ≡ length m
unfolding added
length_added m i = simp length-set

-- the lowest digit of an or
or_low : (a b : ℕ) → bit_or a b % 2 ≡ max (a % 2) (b % 2)
or_low a b = rw (or_step a b) (omega arith)

-- the digits of a power of two
power_same : (j : ℕ) → 2 ^ j / 2 ^ j % 2 ≡ 1
power_same j = rw (div_self (pow_pos j)) refl

power_above : (j k : ℕ) → j < k → 2 ^ j / 2 ^ k % 2 ≡ 0
power_above j k l = rw (div-eq_of_lt (pow-lt l)) refl

power_below : (j k : ℕ) → k < j → 2 ^ j / 2 ^ k % 2 ≡ 0
power_below j k l =
    let d = j - (k + 1) in
    let e : j ≡ k + suc d = omega arith in
    rw (e, pow-add 2 k (suc d), mul-div_right (2 ^ suc d) (pow_pos k)) (rw one-mul at (shifted_even 1 d))

power_other : (j k : ℕ) → (j ≡ k → ⊥) → 2 ^ j / 2 ^ k % 2 ≡ 0
power_other j k ne = ⊎_elim (power_above j k) (λ w. ⊎_elim (λ e. absurd (ne e)) (power_below j k) w) (tri j k)

pub bit_same : (w j : ℕ) → bit_at (raised w j) j ≡ true
unfolding bit_at raised
bit_same w j =
    let e : raised w j / 2 ^ j % 2 ≡ 1 = rw (or_shr w (2 ^ j) j, or_low, power_same j) (omega arith) in
    eq-eqb (raised w j / 2 ^ j % 2) 1 e

pub bit_other : (w j k : ℕ) → (j ≡ k → ⊥) → bit_at (raised w j) k ≡ bit_at w k
unfolding bit_at raised
bit_other w j k ne =
    let e : raised w j / 2 ^ k % 2 ≡ w / 2 ^ k % 2 = rw (or_shr w (2 ^ j) k, or_low, power_other j k ne) (omega arith) in
    ap (λ (x : ℕ). eqb x 1) e

pub bit_none : (j : ℕ) → bit_at 0 j ≡ false
unfolding bit_at
bit_none j = rw (zero-div (2 ^ j)) refl

-- ---- sets

pub clear_none : (words : ℕ) → Clear (replicate words 0)
clear_none words = record { zero = λ p. zeros p (tri p words) }
  where
    zeros : (p : ℕ) → (p < words) ⊎ ((p ≡ words) ⊎ (words < p)) → ◌≡◌ {A = ℕ} (get_or (replicate words 0) p 0) 0
    zeros p c =
        ⊎_elim (λ h. get_or-replicate words p 0 0 h)
        (λ w. get_or-eq_default (replicate words 0) 0 {n = p} (⊎_elim (λ e. omega (arith, length-replicate {A = ℕ} words 0)) (λ g. omega (arith, length-replicate {A = ℕ} words 0)) w)) c

-- words below the list's length that are 0 are all of them
pub clear_all : (m : List ℕ) (n : ℕ) → length m ≤ n → ((p : ℕ) → p < n → ◌≡◌ {A = ℕ} (get_or m p 0) 0) → Clear m
clear_all m n l h =
    record { zero = λ p. ⊎_elim (h p) (λ w. get_or-eq_default m 0 {n = p} (⊎_elim (λ e. omega arith) (λ g. omega arith) w)) (tri p n) }

-- one word more
pub clear_more : (m : List ℕ) (n : ℕ) → n < length m → ((p : ℕ) → p < n → ◌≡◌ {A = ℕ} (get_or m p 0) 0)
    → (p : ℕ) → p < n + 1 → ◌≡◌ {A = ℕ} (get_or (set m n 0) p 0) 0
clear_more m n l h p q =
    ⊎_elim (λ lt. get_or-set_other m n p 0 0 (λ e. omega arith) ∙ h p lt)
    (⊎_elim (λ e. rw e (get_or-set_same m n 0 0 l)) (λ g. absurd (omega arith))) (tri p n)

pub in_clear : (m : List ℕ) (i : ℕ) → Clear m → in_set m i ≡ false
unfolding in_set
in_clear m i w = rw (w.zero (i / 32)) (bit_none (i % 32))

pub in_none : (words i : ℕ) → in_set (replicate words 0) i ≡ false
in_none words i = in_clear (replicate words 0) i (clear_none words)

pub in_added_same : (m : List ℕ) (i : ℕ) → i / 32 < length m → in_set (added m i) i ≡ true
unfolding in_set added
in_added_same m i h = rw (get_or-set_same m (i / 32) (raised (get_or m (i / 32) 0) (i % 32)) 0 h) (bit_same (get_or m (i / 32) 0) (i % 32))

pub in_added_other : (m : List ℕ) (x i : ℕ) → (i ≡ x → ⊥) → in_set (added m x) i ≡ in_set m i
unfolding in_set added
in_added_other m x i ne =
    ⊎_elim (λ l. elsewhere (λ e. omega arith)) (λ w. ⊎_elim here (λ g. elsewhere (λ e. omega arith)) w) (tri (i / 32) (x / 32))
  where
    elsewhere : (i / 32 ≡ x / 32 → ⊥) → bit_at (get_or (set m (x / 32) (raised (get_or m (x / 32) 0) (x % 32))) (i / 32) 0) (i % 32) ≡ bit_at (get_or m (i / 32) 0) (i % 32)
    elsewhere q = rw (get_or-set_other m (x / 32) (i / 32) (raised (get_or m (x / 32) 0) (x % 32)) 0 q)

    inside : x / 32 < length m → i / 32 ≡ x / 32 → bit_at (get_or (set m (x / 32) (raised (get_or m (x / 32) 0) (x % 32))) (x / 32) 0) (i % 32) ≡ bit_at (get_or m (x / 32) 0) (i % 32)
    inside h e =
        rw (get_or-set_same m (x / 32) (raised (get_or m (x / 32) 0) (x % 32)) 0 h)
        (bit_other (get_or m (x / 32) 0) (x % 32) (i % 32) (λ q. ne (omega arith)))

    past : length m ≤ x / 32 → bit_at (get_or (set m (x / 32) (raised (get_or m (x / 32) 0) (x % 32))) (x / 32) 0) (i % 32) ≡ bit_at (get_or m (x / 32) 0) (i % 32)
    past h =
        rw (get_or-eq_default (set m (x / 32) (raised (get_or m (x / 32) 0) (x % 32))) 0 {n = x / 32} (simp length-set h), get_or-eq_default m 0 {n = x / 32} h)

    here : i / 32 ≡ x / 32 → bit_at (get_or (set m (x / 32) (raised (get_or m (x / 32) 0) (x % 32))) (i / 32) 0) (i % 32) ≡ bit_at (get_or m (i / 32) 0) (i % 32)
    here e = rw e (⊎_elim (λ l. inside l e) (λ w. past (⊎_elim (λ q. omega arith) (λ g. omega arith) w)) (tri (x / 32) (length m)))
