-- The walks over variables and elements, and what they have printed so far, over plain variables.
use mathlib.Core.Path.{◌≡◌, refl, sym, ap}
use mathlib.Core.List.{List}
use mathlib.Core.Bool.{false}
use mathlib.Core.Logic.{⊎_elim}
use Prim.Native.Nat.{ℕ, ◌+◌, ◌*◌, ◌≤◌, ◌<◌}
use native.Mathlib.Omega.{arith}
use Rattle.rules_walks.specs.Count.{count_if}
use Rattle.rules_walks.proofs.laws.Count.{count_hit, count_miss}
use Rattle.rules_walks.proofs.laws.Pick.{test_cases}
use Rattle.rules_tables.specs.Frame.{Table}
use Rattle.rules_tables.specs.declared.Shape.{Shape}
use Rattle.rules_tables.specs.Ids.{elements, variables}
use Rattle.rules_tables.specs.Good.{Good}
use Rattle.rules_store.specs.Word.{Store}
use Rattle.rules_traces.specs.Gather.{gather}
use Rattle.rules_traces.proofs.laws.Gather.{gather_none, gather_next}
use Rattle.rules_shows.specs.Words.{codes, decimal}
use Rattle.rules_shows.specs.Shown.{variable_text, element_line, element_text, frames_line, shown_text}
use Rattle.lines.specs.Printed.{Printed}
use Rattle.session_trace.specs.Owned.{owned, owned_count, before_count}
use Rattle.session_trace.proofs.Owning.{before_next, before_most}
use Rattle.session_trace.proofs.Printing.{prints_none, prints_is, prints_then}

module _ (T : Table) (S : Shape) (s : Store) where
  -- ---- variables
  module _ (el : ℕ) where
    -- the lines of the first v are printed, up to p
    pub record Listed (text₀ : List ℕ) (at v p : ℕ) (text : List ℕ) : Type 0 where
      pub printed : Printed (gather (variable_text T S s el) v) at (at + 56 * count_if (owned T S el) v) p text₀ text

    pub listed_none : (text : List ℕ) (at : ℕ) → Listed text at 0 at text
    listed_none text at =
        record { printed = prints_is (at + 56 * count_if (owned T S el) 0) (sym (gather_none (variable_text T S s el))) (omega arith) (prints_none at (omega arith)) }

    pub listed_more : {text₀ text text' : List ℕ} {at v p r : ℕ} → Listed text₀ at v p text
        → Printed (variable_text T S s el v) p (p + 56) r text text' × (owned T S el v ≡ false → r ≡ p) → Listed text₀ at (v + 1) r text'
    listed_more {at = at} {v = v} {p = p} {r = r} w u =
        let x = prints_is (p + 56) (sym (gather_next (variable_text T S s el) v)) (omega arith) (prints_then w.printed u.0) in
        let h = w.printed.room in
        let far : r ≤ at + 56 * count_if (owned T S el) (v + 1) = ⊎_elim (λ e. let a = count_hit (owned T S el) v e in let b = u.0.room in omega arith) (λ e. let a = count_miss (owned T S el) v e in let b = u.1 e in omega arith) (test_cases (owned T S el v)) in
        record { printed = record { place_is = x.place_is; text_is = x.text_is; room = far } }

    pub listed_all : {text₀ text : List ℕ} {at v p : ℕ} → Listed text₀ at v p text → v ≡ variables S
        → Printed (gather (variable_text T S s el) (variables S)) at (at + 56 * owned_count T S el) p text₀ text
    unfolding owned_count
    listed_all {at = at} w e =
        prints_is (at + 56 * count_if (owned T S el) (variables S)) (ap (gather (variable_text T S s el)) e)
        (let q = ap (count_if (owned T S el)) e in omega arith) w.printed

    pub element_printed : {at p r : ℕ} {t t₁ t₂ : List ℕ} → Printed (element_line T s el) at (at + 67) p t t₁
        → Printed (gather (variable_text T S s el) (variables S)) p (p + 56 * owned_count T S el) r t₁ t₂
        → Printed (element_text T S s el) at (at + 67 + 56 * owned_count T S el) r t t₂
    unfolding element_text
    element_printed {at = at} u v = let h = u.room in prints_is (at + 67 + 56 * owned_count T S el) refl (omega arith) (prints_then u v)

  -- ---- elements
  -- the first el are printed, up to p
  pub record Passed (text₀ : List ℕ) (at el p : ℕ) (text : List ℕ) : Type 0 where
    pub printed : Printed (gather (element_text T S s) el) at (at + 67 * el + 56 * before_count T S el) p text₀ text

  pub passed_none : (text : List ℕ) (at : ℕ) → Passed text at 0 at text
  passed_none text at =
      record { printed = prints_is (at + 67 * 0 + 56 * before_count T S 0) (sym (gather_none (element_text T S s))) (omega arith) (prints_none at (omega arith)) }

  -- one more has room
  pub element_room : {text₀ text : List ℕ} {at el p : ℕ} → Good T S → Passed text₀ at el p text → el < elements S → p + 67 + 56 * owned_count T S el ≤ at + 32960
  element_room {el = el} g w l =
      let a = before_next T S el in
      let b = before_most T S (el + 1) in
      let c = g.few_variables in
      let d = g.few_elements in
      let h = w.printed.room in
      omega arith

  pub passed_more : {text₀ text text' : List ℕ} {at el p r : ℕ} → Passed text₀ at el p text
      → Printed (element_text T S s el) p (p + 67 + 56 * owned_count T S el) r text text' → Passed text₀ at (el + 1) r text'
  passed_more {at = at} {el = el} w u =
      let h = w.printed.room in
      let a = before_next T S el in
      record {
        printed =
            prints_is (at + 67 * (el + 1) + 56 * before_count T S (el + 1)) (sym (gather_next (element_text T S s) el)) (omega arith) (prints_then w.printed u);
      }

  pub passed_all : {text₀ text : List ℕ} {at el p : ℕ} → Good T S → Passed text₀ at el p text → el ≡ elements S
      → Printed (gather (element_text T S s) (elements S)) at (at + 32960) p text₀ text
  passed_all {at = at} {el = el} g w e =
      let b = before_most T S el in
      let c = g.few_variables in
      let d = g.few_elements in
      prints_is (at + 32960) (ap (gather (element_text T S s)) e) (omega arith) w.printed

  -- ---- all of it
  pub shown_printed : (n : ℕ) {at a b c r : ℕ} {t t₁ t₂ t₃ t₄ : List ℕ} → Printed (codes "frames ") at (at + 7) a t t₁ → Printed (decimal n) a (a + 20) b t₁ t₂
      → Printed (codes "\n") b (b + 1) c t₂ t₃ → Printed (gather (element_text T S s) (elements S)) c (c + 32960) r t₃ t₄
      → Printed (shown_text T S s n) at (at + 32988) r t t₄
  unfolding shown_text frames_line
  shown_printed n {at = at} u₁ u₂ u₃ u₄ =
      let h₁ = u₁.room in
      let h₂ = u₂.room in
      let h₃ = u₃.room in
      prints_is (at + 32988) refl (omega arith) (prints_then (prints_then u₁ (prints_then u₂ u₃)) u₄)
