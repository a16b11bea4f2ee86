-- Laws of choices and of tests put together.
use Rattle.std.specs.Prelude.{◌≡◌, refl, Bool, true, false, not, ◌⊎◌, ℕ, ◌≤◌, ◌<◌, ltb}
use Rattle.std.proofs.Common.{sym, ap, inl, inr, ⊎_elim, eq-or-lt_of_le, arith, ltb-true, ltb-false}
use Rattle.rules_walks.specs.Pick.{pick, both, either}

-- what holds of both choices holds of the choice
pub by_test {ℓ} : {A : Type ℓ} (P : A → Type 0) (b : Bool) (x y : A) → (b ≡ true → P x) → (b ≡ false → P y) → P (pick b x y)
by_test P true x y f g = f refl
by_test P false x y f g = g refl

-- a test that fails and passes
pub clash : {A : Type 0} → false ≡ true → A
clash e = absurd (let z : ◌≡◌ {A = ℕ} 0 1 = ap (λ (b : Bool). pick b 1 0) e in omega arith)

pub both_false : (a : Bool) → both a false ≡ false
both_false true = refl
both_false false = refl

pub both_true : (a : Bool) → both a true ≡ a
both_true true = refl
both_true false = refl

pub either_true : (a : Bool) → either a true ≡ true
either_true true = refl
either_true false = refl

pub either_false : (a : Bool) → either a false ≡ a
either_false true = refl
either_false false = refl

pub both_left : (a b : Bool) → both a b ≡ true → a ≡ true
both_left true b e = refl
both_left false b e = e

pub both_right : (a b : Bool) → both a b ≡ true → b ≡ true
both_right true b e = e
both_right false b e = clash e

pub both_intro : (a b : Bool) → a ≡ true → b ≡ true → both a b ≡ true
both_intro a b p q = rw (p, q)

-- the parts of a longer chain
pub both3 : (a b c : Bool) → both a (both b c) ≡ true → (a ≡ true) × (b ≡ true) × (c ≡ true)
both3 a b c h = let r = both_right a (both b c) h in (both_left a (both b c) h, both_left b c r, both_right b c r)

pub both5 : (a b c d e : Bool) → both a (both b (both c (both d e))) ≡ true → (a ≡ true) × (b ≡ true) × (c ≡ true) × (d ≡ true) × (e ≡ true)
both5 a b c d e h =
    let w = both3 a b (both c (both d e)) h in
    let v = both3 c d e w.2 in
    (w.0, w.1, v.0, v.1, v.2)

-- a failed `both` failed at one of its sides
pub both_failed : (a b : Bool) → both a b ≡ false → (a ≡ false) ⊎ ((a ≡ true) × (b ≡ false))
both_failed true b e = inr (refl, e)
both_failed false b e = inl refl

pub either_cases : (a b : Bool) → either a b ≡ true → (a ≡ true) ⊎ (b ≡ true)
either_cases true b e = inl refl
either_cases false b e = inr e

pub either_else : (a b : Bool) → either a b ≡ true → a ≡ false → b ≡ true
either_else true b e f = clash (sym f)
either_else false b e f = e

pub not_back : (a : Bool) → not a ≡ true → a ≡ false
not_back true e = clash e
not_back false e = refl

pub not_in : (a : Bool) → a ≡ false → not a ≡ true
not_in a e = rw e

-- two tests that pass together are one test
pub same_test : (a b : Bool) → (a ≡ true → b ≡ true) → (b ≡ true → a ≡ true) → a ≡ b
same_test true b f g = sym (f refl)
same_test false true f g = g refl
same_test false false f g = refl

-- a test passes or fails
pub test_cases : (b : Bool) → (b ≡ true) ⊎ (b ≡ false)
test_cases true = inl refl
test_cases false = inr refl

-- below, at, or above
pub tri : (a b : ℕ) → (a < b) ⊎ ((a ≡ b) ⊎ (b < a))
tri a b = ⊎_elim (λ e. inl (ltb-true a b e)) (λ e. inr (rest (ltb-false a b e))) (test_cases (ltb a b))
  where
    rest : b ≤ a → (a ≡ b) ⊎ (b < a)
    rest h = ⊎_elim (λ e. inl (sym e)) inr (eq-or-lt_of_le h)
