-- Words and lines of a shown store, over plain variables.
use mathlib.Core.Path.{◌≡◌, refl, sym, ap, ◌∙◌}
use mathlib.Core.List.{List, ◌++◌}
use mathlib.Core.Bool.{true, false}
use Prim.Native.Nat.{ℕ, ◌+◌}
use native.Mathlib.Omega.{arith}
use lib.Dec.{eqb}
use borrow.Author.Tests.{eq-eqb, ne_eqb}
use Rattle.rules_walks.proofs.laws.Choose.{choose_true, choose_false}
use Rattle.rules_walks.proofs.laws.Pick.{clash}
use Rattle.rules_tables.specs.Frame.{Table, flag_at, field_at}
use Rattle.rules_tables.specs.declared.Shape.{Shape}
use Rattle.rules_tables.specs.Ids.{variable_frame}
use Rattle.rules_store.specs.Word.{Store, chart_state, value}
use Rattle.rules_shows.specs.Words.{codes, decimal, signed}
use Rattle.rules_shows.specs.Shown.{sort_word, role_word, variable_line, variable_text, state_text, element_line}
use Rattle.lines.specs.Printed.{Printed}
use Rattle.session_trace.specs.Owned.{owned}
use Rattle.session_trace.proofs.Printing.{prints_none, prints_is, prints_then}

-- ---- a variable's line
module _ (T : Table) (S : Shape) (s : Store) (v : ℕ) where
  pub variable_told : {f role x at a b c d r : ℕ} {t t₁ t₂ t₃ t₄ t₅ : List ℕ} → f ≡ variable_frame S v → role ≡ flag_at T f → x ≡ value S s v
      → Printed (role_word role) at (at + 11) a t t₁ → Printed (decimal v) a (a + 20) b t₁ t₂ → Printed (codes " = ") b (b + 3) c t₂ t₃ → Printed (signed x) c (c + 21) d t₃ t₄
      → Printed (codes "\n") d (d + 1) r t₄ t₅ → Printed (variable_line T S s v) at (at + 56) r t t₅
  unfolding variable_line
  variable_told {at = at} p q e u₁ u₂ u₃ u₄ u₅ =
      let h₁ = u₁.room in
      let h₂ = u₂.room in
      let h₃ = u₃.room in
      let h₄ = u₄.room in
      prints_is (at + 56)
      (λ t. role_word ((q ∙ ap (flag_at T) p) t) ++ (decimal v ++ (codes " = " ++ (signed (e t) ++ codes "\n")))) (omega arith)
      (prints_then u₁ (prints_then u₂ (prints_then u₃ (prints_then u₄ u₅))))

  -- where it belongs to the element
  module _ (el : ℕ) {f x : ℕ} (p : f ≡ variable_frame S v) (q : x ≡ field_at T f 0) where
    owner_is : x ≡ field_at T (variable_frame S v) 0
    owner_is = q ∙ ap (λ (n : ℕ). field_at T n 0) p

    pub owned_true : x ≡ el → owned T S el v ≡ true
    unfolding owned
    owned_true e = eq-eqb (field_at T (variable_frame S v) 0) el (sym owner_is ∙ e)

    pub owned_false : (x ≡ el → ⊥) → owned T S el v ≡ false
    unfolding owned
    owned_false n = ne_eqb (field_at T (variable_frame S v) 0) el (λ e. n (owner_is ∙ e))

    pub owned_told : {at r : ℕ} {t t' : List ℕ} → x ≡ el → Printed (variable_line T S s v) at (at + 56) r t t'
        → Printed (variable_text T S s el v) at (at + 56) r t t' × (owned T S el v ≡ false → r ≡ at)
    unfolding variable_text owned
    owned_told {at} e u =
        (prints_is (at + 56) (sym (choose_true (owned T S el v) _ _ (owned_true e))) (omega arith) u, λ o. clash (sym o ∙ owned_true e))

    pub owned_none : {at : ℕ} {t : List ℕ} → (x ≡ el → ⊥) → Printed (variable_text T S s el v) at (at + 56) at t t × (owned T S el v ≡ false → at ≡ at)
    unfolding variable_text owned
    owned_none {at} n =
        (prints_is (at + 56) (sym (choose_false (owned T S el v) _ _ (owned_false n))) (omega arith) (prints_none at (omega arith)), λ _. refl)

-- ---- an element's line
module _ (s : Store) (el : ℕ) where
  pub state_none : (k : ℕ) {at : ℕ} {t : List ℕ} → (k ≡ 0 → ⊥) → Printed (state_text k s el) at (at + 28) at t t
  unfolding state_text
  state_none k {at} n = prints_is (at + 28) (sym (choose_false (eqb k 0) _ _ (ne_eqb k 0 n))) (omega arith) (prints_none at (omega arith))

  pub state_told : (k : ℕ) {q at a r : ℕ} {t t₁ t₂ : List ℕ} → k ≡ 0 → q ≡ chart_state s el → Printed (codes ", state ") at (at + 8) a t t₁ → Printed (decimal q) a (a + 20) r t₁ t₂
      → Printed (state_text k s el) at (at + 28) r t t₂
  unfolding state_text
  state_told k {at = at} e p u₁ u₂ =
      let h = u₁.room in
      prints_is (at + 28) (ap (λ (n : ℕ). codes ", state " ++ decimal n) p ∙ sym (choose_true (eqb k 0) _ _ (eq-eqb k 0 e))) (omega arith) (prints_then u₁ u₂)

  pub element_told : (T : Table) {k at a b c d e r : ℕ} {t t₁ t₂ t₃ t₄ t₅ t₆ : List ℕ} → k ≡ flag_at T el
      → Printed (codes "element ") at (at + 8) a t t₁ → Printed (decimal el) a (a + 20) b t₁ t₂ → Printed (codes " ") b (b + 1) c t₂ t₃ → Printed (sort_word k) c (c + 9) d t₃ t₄
      → Printed (state_text k s el) d (d + 28) e t₄ t₅ → Printed (codes "\n") e (e + 1) r t₅ t₆ → Printed (element_line T s el) at (at + 67) r t t₆
  unfolding element_line
  element_told T {at = at} p u₁ u₂ u₃ u₄ u₅ u₆ =
      let h₁ = u₁.room in
      let h₂ = u₂.room in
      let h₃ = u₃.room in
      let h₄ = u₄.room in
      let h₅ = u₅.room in
      prints_is (at + 67) (λ t. codes "element " ++ (decimal el ++ (codes " " ++ (sort_word (p t) ++ (state_text (p t) s el ++ codes "\n"))))) (omega arith)
      (prints_then u₁ (prints_then u₂ (prints_then u₃ (prints_then u₄ (prints_then u₅ u₆)))))
