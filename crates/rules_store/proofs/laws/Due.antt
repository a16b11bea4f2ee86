-- Laws of the next due time: what looking finds, that nothing but due words decides it, and what becomes of it where the due words of one element change.
use Rattle.std.specs.Prelude.{◌≡◌, refl, Bool, true, false, not, List, ◌⊎◌, ℕ, zero, suc, ◌≤◌, ◌<◌, eqb, ltb}
use Rattle.std.proofs.Common.{sym, ◌∙◌, inl, inr, ⊎_elim, eq-or-lt_of_le, le_of_suc-le-suc, not-suc-le-zero, arith}
use borrow.Author.Tests.{eqb-true, eqb-false, eq-eqb, ne_eqb, ltb-true, ltb-false}
use Rattle.rules_walks.specs.Pick.{either}
use Rattle.rules_walks.proofs.laws.Pick.{clash, both_left, both_right, both_intro, either_cases, not_back, not_in, test_cases, tri}
use Rattle.rules_walks.proofs.laws.Choose.{by_choose}
use Rattle.rules_walks.specs.All.{Witness}
use Rattle.rules_store.specs.declared.NextDue.{NextDue}
use Rattle.rules_store.specs.Word.{due_flag, due_time}
use Rattle.rules_store.specs.Part.{SameDue}
use Rattle.rules_store.specs.Own.{Due}
use Rattle.rules_store.specs.Due.{due_at, nothing_due, due_then, sooner, earliest}
use Rattle.rules_store.specs.Earliest.{Earliest, another}

-- two answers with the same two numbers are the same
pub alike_next : (a b : NextDue) → a.due ≡ b.due → a.time ≡ b.time → a ≡ b
alike_next a b p q = made a.due a.time b.due b.time p q
  where
    made : (x y u v : ℕ) → x ≡ u → y ≡ v → ◌≡◌ {A = NextDue} (record { due = x; time = y }) (record { due = u; time = v })
    made x y u v p q = rw (p, q)

-- a flag that is not 0
pub one_of : (n : ℕ) → n ≤ 1 → (n ≡ 0 → ⊥) → n ≡ 1
one_of n l h = ⊎_elim (λ a. absurd (h (omega arith))) (λ c. ⊎_elim (λ e. e) (λ g. absurd (omega arith)) c) (tri n 1)

-- ---- due at a time, as facts
module _ (s : List ℕ) (t el : ℕ) where
  pub due_at_intro : (due_flag s el ≡ 0 → ⊥) → due_time s el ≡ t → due_at s t el ≡ true
  unfolding due_at
  due_at_intro n e = both_intro _ _ (not_in _ (ne_eqb _ _ n)) (eq-eqb _ _ e)

  pub due_at_flag : due_at s t el ≡ true → due_flag s el ≡ 0 → ⊥
  unfolding due_at
  due_at_flag h = eqb-false _ _ (not_back _ (both_left (not (eqb (due_flag s el) 0)) (eqb (due_time s el) t) h))

  pub due_at_time : due_at s t el ≡ true → due_time s el ≡ t
  unfolding due_at
  due_at_time h = eqb-true _ _ (both_right (not (eqb (due_flag s el) 0)) (eqb (due_time s el) t) h)

-- it hangs on the element's due words alone
pub same_due_at : (s s' : List ℕ) (t el : ℕ) → SameDue s s' el → due_at s' t el ≡ true → due_at s t el ≡ true
same_due_at s s' t el u e = due_at_intro s t el (λ z. due_at_flag s' t el e (u.flag ∙ z)) (sym u.at ∙ due_at_time s' t el e)

-- ---- what looking finds
module _ (s : List ℕ) (n : ℕ) (a : NextDue) (w : Earliest s n a) where
  -- an element more, which is not due or not sooner
  more_same : ((due_flag s n ≡ 0 → ⊥) → (a.due ≡ 1) × (a.time ≤ due_time s n)) → Earliest s (suc n) a
  more_same h =
      record {
        flagged = w.flagged;
        rests = w.rests;
        some = λ e. let k = w.some e in record { which = k.which; below = let l = k.below in omega arith; passes = k.passes };
        first = λ el l d. ⊎_elim (λ q. rw q (h (rw q at d))) (λ b. w.first el b d) (eq-or-lt_of_le (le_of_suc-le-suc l));
      }

  -- not sooner is what the test says that fails
  more_else : (b c : Bool) → either b c ≡ false → eqb a.due 0 ≡ b → ltb (due_time s n) a.time ≡ c → Earliest s (suc n) a
  more_else true c h p q = clash (sym h)
  more_else false true h p q = clash (sym h)
  more_else false false h p q = more_same (λ _. (one_of a.due w.flagged (eqb-false a.due 0 p), ltb-false _ _ q))

  -- an element more, due and sooner
  more_sooner : (due_flag s n ≡ 0 → ⊥) → ((a.due ≡ 0) ⊎ (due_time s n < a.time)) → Earliest s (suc n) (due_then (due_time s n))
  more_sooner d h =
      record {
        flagged = omega arith;
        rests = λ e. absurd (omega arith);
        some = λ _. record { which = n; below = omega arith; passes = due_at_intro s (due_time s n) n d refl };
        first =
            λ el l c.
            (refl, ⊎_elim (λ q. rw q (omega arith)) (λ b. let r = w.first el b c in let f = r.0 in let g = r.1 in ⊎_elim (λ z. omega arith) (λ z. omega arith) h) (eq-or-lt_of_le (le_of_suc-le-suc l)));
      }

pub earliest_means : (s : List ℕ) (n : ℕ) → Earliest s n (earliest s n)
unfolding earliest sooner
earliest_means s zero =
    record { flagged = omega arith; rests = λ _. refl; some = λ e. absurd (omega arith); first = λ el l. absurd (not-suc-le-zero l) }
earliest_means s (suc n) =
    let a = earliest s n in
    let w = earliest_means s n in
    by_choose (Earliest s (suc n)) (eqb (due_flag s n) 0) _ _ (λ z. more_same s n a w (λ d. absurd (d (eqb-true _ _ z))))
    (λ z.
    let d = eqb-false _ _ z in
    by_choose (Earliest s (suc n)) (either (eqb a.due 0) (ltb (due_time s n) a.time)) _ _
    (λ h. more_sooner s n a w d (⊎_elim (λ e. inl (eqb-true _ _ e)) (λ e. inr (ltb-true _ _ e)) (either_cases (eqb a.due 0) (ltb (due_time s n) a.time) h)))
    (λ h. more_else s n a w (eqb a.due 0) (ltb (due_time s n) a.time) h refl refl))

-- there is one such answer, so what means the same is what looking finds
pub earliest_only : (s : List ℕ) (n : ℕ) (a b : NextDue) → Earliest s n a → Earliest s n b → a ≡ b
earliest_only s n a b v w = ⊎_elim none some (test_cases (eqb a.due 0))
  where
    also_none : a.due ≡ 0 → eqb b.due 0 ≡ false → ⊥
    also_none z q =
        let k = w.some (one_of b.due w.flagged (eqb-false b.due 0 q)) in
        let f : a.due ≡ 1 = (v.first k.which k.below (due_at_flag s _ _ k.passes)).0 in
        omega arith

    none : eqb a.due 0 ≡ true → a ≡ b
    none e =
        let z : a.due ≡ 0 = eqb-true _ _ e in
        let y : b.due ≡ 0 = ⊎_elim (λ q. eqb-true b.due 0 q) (λ q. absurd (also_none z q)) (test_cases (eqb b.due 0)) in
        alike_next a b (z ∙ sym y) (v.rests z ∙ sym (w.rests y))

    some : eqb a.due 0 ≡ false → a ≡ b
    some e =
        let o = one_of _ v.flagged (eqb-false _ _ e) in
        let k = v.some o in
        let f = w.first k.which k.below (due_at_flag s _ _ k.passes) in
        let j = w.some f.0 in
        let g = v.first j.which j.below (due_at_flag s _ _ j.passes) in
        let x = f.1 in
        let y = g.1 in
        alike_next a b (o ∙ sym f.0) (omega (arith, due_at_time s _ _ k.passes, due_at_time s _ _ j.passes))

pub earliest_is : (s : List ℕ) (n : ℕ) (a : NextDue) → Earliest s n a → earliest s n ≡ a
earliest_is s n a w = earliest_only s n (earliest s n) a (earliest_means s n) w

-- ---- nothing but the due words of the elements decides it
pub earliest_same : (s s' : List ℕ) (n : ℕ) → ((el : ℕ) → el < n → SameDue s s' el) → earliest s' n ≡ earliest s n
unfolding earliest
earliest_same s s' zero h = refl
earliest_same s s' (suc n) h = rw (earliest_same s s' n (λ el l. h el (omega arith)), (h n (omega arith)).flag, (h n (omega arith)).at)

-- where no due flag is set, nothing is due
pub earliest_none : (s : List ℕ) (n : ℕ) → ((el : ℕ) → el < n → due_flag s el ≡ 0) → earliest s n ≡ nothing_due
earliest_none s n h = earliest_is s n nothing_due (record { flagged = omega arith; rests = λ _. refl; some = λ e. absurd (omega arith); first = λ el l d. absurd (d (h el l)) })

-- ---- the due words of element el change: s' is s but for these, a the answer before
module _ (s s' : List ℕ) (n el flag t : ℕ) (l : el < n) (own : Due el flag t s') (others : (k : ℕ) → (k ≡ el → ⊥) → SameDue s s' k) (a : NextDue) (w : Earliest s n a) where
  -- another one's due words as they were
  was_due : (k : ℕ) → (k ≡ el → ⊥) → (due_flag s' k ≡ 0 → ⊥) → due_flag s k ≡ 0 → ⊥
  was_due k q d z = d ((others k q).flag ∙ z)

  -- an element that is due now: el, or one that was due before
  by_own : (P : ℕ → Type 0) (k : ℕ) → P el → ((k ≡ el → ⊥) → P k) → P k
  by_own P k p h = ⊎_elim (λ e. rw (eqb-true k el e) p) (λ e. h (eqb-false k el e)) (test_cases (eqb k el))

  -- el becomes due, and nothing was due before its time
  pub due_first : (flag ≡ 0 → ⊥) → (a.due ≡ 1 → t ≤ a.time) → earliest s' n ≡ due_then t
  due_first f h =
      earliest_is s' n (due_then t)
      (record {
        flagged = omega arith;
        rests = λ e. absurd (omega arith);
        some = λ _. record { which = el; below = l; passes = due_at_intro s' t el (λ z. f (sym own.flagged ∙ z)) own.timed };
        first =
            λ k b.
            by_own (λ (k : ℕ). (due_flag s' k ≡ 0 → ⊥) → (◌≡◌ {A = ℕ} 1 1) × (t ≤ due_time s' k)) k (λ d. (refl, rw own.timed (omega arith)))
            (λ q d. let r = w.first k b (was_due k q d) in let g = h r.0 in let j = r.1 in (refl, rw (others k q).at (omega arith)));
      })

  -- el does not come first, and nothing was due, or another one is due at the earliest time: the answer stays
  pub due_stays : (flag ≡ 0) ⊎ ((a.due ≡ 1) × (a.time ≤ t)) → (a.due ≡ 1 → Witness (another s a.time el) n) → earliest s' n ≡ a
  due_stays h x =
      earliest_is s' n a
      (record {
        flagged = w.flagged;
        rests = w.rests;
        some =
            λ e.
            let k = x e in
            let q = eqb-false _ _ (not_back _ (both_left (not (eqb k.which el)) (due_at s a.time k.which) k.passes)) in
            let p = both_right (not (eqb k.which el)) (due_at s a.time k.which) k.passes in
            let u = others k.which q in
            record { which = k.which; below = k.below; passes = due_at_intro s' a.time k.which (λ z. due_at_flag s _ _ p (sym u.flag ∙ z)) (u.at ∙ due_at_time s _ _ p) };
        first =
            λ k b.
            by_own (λ (k : ℕ). (due_flag s' k ≡ 0 → ⊥) → (a.due ≡ 1) × (a.time ≤ due_time s' k)) k
            (λ d. ⊎_elim (λ z. absurd (d (own.flagged ∙ z))) (λ g. (g.0, rw own.timed g.1)) h)
            (λ q d. let r = w.first k b (was_due k q d) in (r.0, rw (others k q).at r.1));
      })
