-- What `clip` is, in terms of the order and of distance: in the range, the number itself where that is in the range, else the nearest end.
-- Assumes nothing.
use Rattle.std.proofs.Common.{⊎_elim, sym, ap, ◌∙◌, subst, arith, leb→le, ltb-true, ltb-false}
use Rattle.std.specs.Prelude.{◌≡◌, refl, Bool, true, false, not, cond, ℕ, zero, suc, ◌+◌, ◌-◌, ◌≤◌, min, T, ltb, ℤ, pos, negsuc, nat_abs, ◌-ℤ◌, ◌≤ℤ◌, ◌<ℤ◌}
use Rattle.std.proofs.Math.IntN.{sub_ℕ}
use Rattle.std.specs.Int.Signed.{lt_z, le_z_yes, lt_z_yes, lt_z_no, ≤ℤ_refl, clash_ℤ}
use Rattle.rules_walks.specs.Choose.{choose}
use Rattle.rules_walks.proofs.laws.Choose.{choose_true, choose_false, by_choose}
use Rattle.rules_walks.proofs.laws.Pick.{test_cases}
use Rattle.rules_numbers.specs.Clip.{lowest, highest, InRange, clip}
use Rattle.rules_numbers.specs.Nearest.{Nearest}

-- ---- both halves of ℤ are cut at the same magnitude
cut : (k : ℕ → ℤ) (n : ℕ) (t : Bool) → ltb 2147483647 n ≡ t → choose t (k 2147483647) (k n) ≡ k (min n 2147483647)
unfolding choose
cut k n true e = ap k (omega (arith, ltb-true))
cut k n false e = ap k (omega (arith, ltb-false))

pub clip_pos : (n : ℕ) → clip (pos n) ≡ pos (min n 2147483647)
unfolding clip choose
clip_pos n = cut pos n (ltb 2147483647 n) refl

pub clip_negsuc : (n : ℕ) → clip (negsuc n) ≡ negsuc (min n 2147483647)
unfolding clip choose
clip_negsuc n = cut negsuc n (ltb 2147483647 n) refl

-- ---- distances
sub_far : (a b : ℕ) (t : Bool) → ltb a b ≡ t → nat_abs (cond t (negsuc (b - suc a)) (pos (a - b))) ≡ (a - b) + (b - a)
sub_far a b true e = omega (arith, ltb-true)
sub_far a b false e = omega (arith, ltb-false)

far : (a b : ℕ) → nat_abs (sub_ℕ a b) ≡ (a - b) + (b - a)
far a b = sub_far a b (ltb a b) refl

pos_pos : (a b : ℕ) → nat_abs (pos a -ℤ pos b) ≡ (a - b) + (b - a)
pos_pos a zero = omega arith
pos_pos a (suc b) = far a (suc b)

negsuc_pos : (a b : ℕ) → nat_abs (negsuc a -ℤ pos b) ≡ suc a + b
negsuc_pos a zero = far 0 (suc a) ∙ omega arith
negsuc_pos a (suc b) = omega arith

negsuc_negsuc : (a b : ℕ) → nat_abs (negsuc a -ℤ negsuc b) ≡ (a - b) + (b - a)
negsuc_negsuc a b = far (suc b) (suc a) ∙ omega arith

no_nearer : (z y : ℤ) → InRange y → nat_abs (z -ℤ clip z) ≤ nat_abs (z -ℤ y)
no_nearer (pos n) (pos m) w =
    let h = leb→le m 2147483647 w.high.le in
    rw (clip_pos n) (omega (arith, pos_pos n (min n 2147483647), pos_pos n m))
no_nearer (pos n) (negsuc m) w = rw (clip_pos n) (omega (arith, pos_pos n (min n 2147483647)))
no_nearer (negsuc n) (pos m) w = rw (clip_negsuc n) (omega (arith, negsuc_negsuc n (min n 2147483647), negsuc_pos n m))
no_nearer (negsuc n) (negsuc m) w =
    let h = leb→le m 2147483647 w.low.le in
    rw (clip_negsuc n) (omega (arith, negsuc_negsuc n (min n 2147483647), negsuc_negsuc n m))

-- ---- the order
not_below : {a b : ℤ} → b ≤ℤ a → lt_z a b ≡ false
not_below {a} {b} h = ⊎_elim (λ (e : lt_z a b ≡ true). clash_ℤ (lt_z_yes (subst T (sym e) tt)) h) (λ (e : lt_z a b ≡ false). e) (test_cases (lt_z a b))

below : {a b : ℤ} → a <ℤ b → lt_z a b ≡ true
below {a} {b} h = ⊎_elim (λ (e : lt_z a b ≡ true). e) (λ (e : lt_z a b ≡ false). absurd (subst T e h.lt)) (test_cases (lt_z a b))

at_least : {a b : ℤ} → lt_z a b ≡ false → b ≤ℤ a
at_least {a} {b} e = lt_z_no (subst (λ (t : Bool). T (not t)) (sym e) tt)

over_low : (z : ℤ) → highest <ℤ z → lt_z z lowest ≡ false
over_low (pos n) h = refl
over_low (negsuc n) h = absurd h.lt

pub clip_nearest : (z : ℤ) → Nearest z (clip z)
unfolding clip
clip_nearest z =
    record {
      within =
          by_choose InRange (lt_z z lowest) _ _ (λ _. record { low = ≤ℤ_refl lowest; high = le_z_yes tt })
          (λ e. by_choose InRange (lt_z highest z) _ _ (λ _. record { low = le_z_yes tt; high = ≤ℤ_refl highest })
          (λ f. record { low = at_least e; high = at_least f }));
      kept = λ w. choose_false _ _ _ (not_below w.low) ∙ choose_false _ _ _ (not_below w.high);
      under = λ h. choose_true _ _ _ (below h);
      over = λ h. choose_false _ _ _ (over_low z h) ∙ choose_true _ _ _ (below h);
      nearest = no_nearer z;
    }
