-- The due words of an element are written: which words change, where the next due time is known without looking.
use Rattle.std.specs.Prelude.{◌≡◌, List, Bool, ◌⊎◌, ℕ, ◌+◌, ◌≤◌, ◌<◌, eqb, leb}
use Rattle.std.proofs.Math.Path.{refl, ap}
use Rattle.std.proofs.Common.{sym, ◌∙◌, arith, add-one}
use Rattle.std.proofs.Math.Bool.{true, false, not}
use Rattle.std.proofs.Math.Logic.{inl, inr, ⊎_elim}
use borrow.Author.Tests.{eqb-true, eqb-false, eq-eqb, ne_eqb, leb-true, leb-false}
use Rattle.rules_walks.specs.Pick.{either}
use Rattle.rules_walks.proofs.laws.Pick.{clash, both_left, both_right, both_intro, both_failed, either_cases, not_back, not_in}
use Rattle.rules_walks.proofs.laws.Choose.{choose_true, choose_false}
use Rattle.rules_walks.specs.All.{Witness}
use Rattle.rules_tables.specs.declared.Shape.{Shape}
use Rattle.rules_tables.specs.Ids.{elements}
use Rattle.rules_store.specs.declared.NextDue.{NextDue}
use Rattle.rules_store.specs.Word.{due_flag, due_time, set_due, next_due, put_next}
use Rattle.rules_store.specs.Layout.{element_at}
use Rattle.rules_store.proofs.laws.Part.{same_next, due_touches}
use Rattle.rules_store.specs.Due.{due_at, due_then, sooner, earliest, put_due}
use Rattle.rules_store.specs.Earliest.{Earliest, another, NextKept}
use Rattle.rules_store.proofs.laws.Due.{one_of}
use Rattle.rules_store.proofs.laws.PutDue.{next_back, kept_means, put_first, put_stays}
use Rattle.store_words.specs.Due.{comes_first}

-- ---- looking, an element more
module _ (s : List ℕ) (n : ℕ) {flag : ℕ} {a : NextDue} (read : flag ≡ due_flag s n) (so_far : a ≡ earliest s n) where
  pub look_idle : flag ≡ 0 → a ≡ earliest s (n + 1)
  unfolding earliest
  look_idle z = rw (add-one n, choose_true (eqb (due_flag s n) 0) (earliest s n) (sooner (due_time s n) (earliest s n)) (eq-eqb _ _ (sym read ∙ z))) so_far

  pub look_due : {t : ℕ} {b : NextDue} → (flag ≡ 0 → ⊥) → t ≡ due_time s n → b ≡ sooner t a → b ≡ earliest s (n + 1)
  unfolding earliest
  look_due z e q =
      rw (add-one n, choose_false (eqb (due_flag s n) 0) (earliest s n) (sooner (due_time s n) (earliest s n)) (ne_eqb _ _ (λ y. z (read ∙ y))), ← so_far, ← e) q

-- ---- one behind el is another
pub behind_found : (s : List ℕ) (t el n k : ℕ) {b : Bool} → el < k → k < n → b ≡ due_at s t k → b ≡ true → Witness (another s t el) n
behind_found s t el n k l h e q = record { which = k; below = h; passes = both_intro _ _ (not_in _ (ne_eqb k el (λ z. omega arith))) (sym e ∙ q) }

-- ---- a next due time that stays need not be written
set_leaves_next : (s : List ℕ) (el flag t : ℕ) → next_due (set_due el flag t s) ≡ next_due s
unfolding element_at
set_leaves_next s el flag t = let o = due_touches s el flag t in same_next s (set_due el flag t s) (o.apart 9 (λ m n. omega arith)) (o.apart 10 (λ m n. omega arith))

-- ---- the words of element el are written
module _ (S : Shape) (s : List ℕ) (k : NextKept S s) (el : ℕ) (l : el < elements S) {a : NextDue} (read : a ≡ next_due s) where
  abbrev was : Earliest s (elements S) a
  was = rw read (kept_means S s k)

  -- el is not due at the earliest time: another one is
  pub another_found : due_at s a.time el ≡ false → a.due ≡ 1 → Witness (another s a.time el) (elements S)
  another_found n e =
      let w = was.some e in
      record {
        which = w.which;
        below = w.below;
        passes = both_intro _ _ (not_in _ (ne_eqb w.which el (λ q. clash (sym n ∙ ap (due_at s a.time) (sym q) ∙ w.passes)))) w.passes;
      }

  module _ (flag t : ℕ) where
    first : comes_first flag t a ≡ true → put_due S el flag t s ≡ put_next (due_then t) (set_due el flag t s)
    unfolding comes_first
    first c =
        put_first S s k el flag t l (eqb-false flag 0 (not_back _ (both_left (not (eqb flag 0)) _ c)))
        (λ o.
        let q : a.due ≡ 1 = ap (λ (x : NextDue). x.due) read ∙ o in
        let h : t ≤ a.time = ⊎_elim (λ z. absurd (let y = eqb-true a.due 0 z in omega arith)) (λ z. leb-true t a.time z) (either_cases (eqb a.due 0) (leb t a.time) (both_right (not (eqb flag 0)) _ c)) in
        rw (← read) h)

    -- it does not: then it is not due, or due later
    not_first : comes_first flag t a ≡ false → (flag ≡ 0) ⊎ ((a.due ≡ 1) × (a.time ≤ t))
    unfolding comes_first
    not_first c =
        ⊎_elim (λ z. inl (eqb-true flag 0 (passed_not (eqb flag 0) z)))
        (λ w. inr (later (eqb a.due 0) (leb t a.time) refl refl w.1)) (both_failed (not (eqb flag 0)) (either (eqb a.due 0) (leb t a.time)) c)
      where
        passed_not : (b : Bool) → not b ≡ false → b ≡ true
        passed_not true e = refl
        passed_not false e = clash (sym e)

        later : (b c : Bool) → eqb a.due 0 ≡ b → leb t a.time ≡ c → either b c ≡ false → (a.due ≡ 1) × (a.time ≤ t)
        later true c p q e = clash (sym e)
        later false true p q e = clash (sym e)
        later false false p q e = let h = leb-false t a.time q in (one_of a.due was.flagged (eqb-false a.due 0 p), omega arith)

    unchanged : comes_first flag t a ≡ false → (a.due ≡ 1 → Witness (another s a.time el) (elements S)) → put_due S el flag t s ≡ set_due el flag t s
    unchanged c x =
        let y = set_due el flag t s in
        put_stays S s k el flag t l (rw (← read) (not_first c)) (rw (← read) x) ∙ ap (λ (b : NextDue). put_next b y) (sym (set_leaves_next s el flag t)) ∙ next_back y

    -- the three ways of the writer: s₁ is the store with the words of el, b what was asked
    module _ {s₁ : List ℕ} (set_is : s₁ ≡ set_due el flag t s) where
      pub first_put : {b : Bool} {s' : List ℕ} → b ≡ comes_first flag t a → b ≡ true → s' ≡ put_next (due_then t) s₁ → s' ≡ put_due S el flag t s
      first_put e q u = rw (first (sym e ∙ q), ← set_is) u

      pub stays_put : {b : Bool} → b ≡ comes_first flag t a → b ≡ false → (a.due ≡ 1 → Witness (another s a.time el) (elements S)) → s₁ ≡ put_due S el flag t s
      stays_put e q x = rw (unchanged (sym e ∙ q) x) set_is

      pub look_put : {n : ℕ} {f : NextDue} {s' : List ℕ} → n ≡ elements S → f ≡ earliest s₁ n → s' ≡ put_next f s₁ → s' ≡ put_due S el flag t s
      unfolding put_due
      look_put m e u = rw (← set_is, ← m, ← e) u
