-- Turns: what the code read makes the frames that the definitions say.
use Prim.Native.Nat.{ℕ, ◌<◌}
use mathlib.Core.Path.{◌≡◌, refl, sym, ap, ◌∙◌}
use mathlib.Core.List.{List, [], ◌∷◌, ◌++◌}
use native.Mathlib.Omega.{arith}
use lib.IntN.{pos}
use lib.Dec.{eqb}
use borrow.Author.Tests.{eq-eqb, ne_eqb}
use Rattle.rules_walks.specs.Choose.{choose}
use Rattle.rules_walks.proofs.laws.Choose.{choose_true, choose_false}
use Rattle.rules_walks.specs.First.{one}
use Rattle.rules_numbers.specs.Word.{signed, word}
use Rattle.rules_numbers.specs.Truth.{outcome}
use Rattle.rules_tables.specs.Kind.{none, internal}
use Rattle.rules_tables.specs.Frame.{flag_at, field_at}
use Rattle.rules_tables.specs.declared.Shape.{Shape}
use Rattle.rules_tables.specs.Good.{Good}
use Rattle.rules_tables.specs.Ids.{first_input, first_output, outputs, variables, actions, steps, output_frame, variable_frame, transition_frame, action_frame, step_frame}
use Rattle.rules_tables.specs.Actions.{action_number}
use Rattle.rules_store.specs.Word.{chart_state, value, running_of}
use Rattle.rules_tables.specs.Owned.{any, rank, is_nth}
use Rattle.rules_walks.proofs.laws.First.{first_in}
use Rattle.std.specs.Prelude.{Option, Some, None}
use Rattle.table_parts.specs.Found.{found_of}
use Rattle.table_parts.proofs.laws.Found.{found_one, found_missing}
use Rattle.rules_moves.specs.Partner.{input_owner, partner_output}
use Rattle.rules_moves.specs.Chart.{element_of}
use Rattle.rules_moves.specs.Act.{step_outcome, event_of}
use Rattle.rules_moves.specs.declared.Next.{Next}
use Rattle.rules_moves.specs.declared.Next.TheVariants.{Take, Change, Idle, Step, End, Back, Nothing}
use Rattle.rules_traces.specs.declared.Entry.{Entry}
use Rattle.rules_traces.specs.Kinds.{chart_kind, emitted_kind, internal_kind, output_kind, action_kind, step_kind}
use Rattle.rules_traces.specs.Entry.{entry}
use Rattle.rules_traces.specs.Trace.{differing, emitted_entry}
use Rattle.moves_tell.specs.Before.{change_entries, result_kind, result_of, result_entry, step_entries, end_numbers, numbers_by}

-- ---- the kind of a result
pub kind_internal : {role : ℕ} → role ≡ internal → internal_kind ≡ result_kind role
unfolding result_kind
kind_internal e = sym (choose_true _ internal_kind output_kind (eq-eqb _ internal e))

pub kind_output : {role : ℕ} → (role ≡ internal → ⊥) → output_kind ≡ result_kind role
unfolding result_kind
kind_output n = sym (choose_false _ internal_kind output_kind (ne_eqb _ internal n))

module _ (T : List ℕ) (S : Shape) where
  pub emitted_is : (o : ℕ) {f el : ℕ} {e : Entry} → f ≡ output_frame S o → el ≡ field_at T f 0 → e ≡ entry emitted_kind el o 1 → e ∷ [] ≡ emitted_entry T S (one o)
  unfolding emitted_entry
  emitted_is o p q r = rw (r, q, p)

  -- ---- the event of action j
  module _ (j : ℕ) {f o : ℕ} (p : f ≡ action_frame S j) (q : o ≡ field_at T f 3) where
    event_field : o ≡ field_at T (action_frame S j) 3
    event_field = rw (← p) q

    pub no_event : o ≡ none → [] ≡ emitted_entry T S (event_of T S j)
    unfolding event_of emitted_entry choose
    no_event r = rw (eq-eqb (field_at T (action_frame S j) 3) none (sym event_field ∙ r)) refl

    pub some_event : (o ≡ none → ⊥) → emitted_entry T S (event_of T S j) ≡ emitted_entry T S (one o)
    unfolding event_of choose
    some_event n = rw (ne_eqb (field_at T (action_frame S j) 3) none (λ z. n (event_field ∙ z)), event_field) refl

    pub event_in : Good T S → j < actions S → (o ≡ none → ⊥) → o < outputs S
    event_in g l n = rw event_field (g.action_event j l (λ z. n (event_field ∙ z)))

  -- ---- the partner of event input i, as the search answered
  module _ (i : ℕ) (r : Option ℕ) (e : r ≡ found_of (partner_output T S i)) where
    pub partner_none : r ≡ None → [] ≡ emitted_entry T S (partner_output T S i)
    unfolding emitted_entry
    partner_none d = rw (found_missing (partner_output T S i) r e d)

    pub partner_one : {o : ℕ} → r ≡ Some o → emitted_entry T S (partner_output T S i) ≡ emitted_entry T S (one o)
    partner_one {o} d = ap (emitted_entry T S) (found_one (partner_output T S i) r o e d)

    pub partner_below : {o : ℕ} → r ≡ Some o → o < outputs S
    unfolding partner_output
    partner_below {o} d =
        let h = first_in (is_nth T (first_output S) any (input_owner T S i) (rank T (first_input S) any (input_owner T S i) i)) 0 (outputs S) o (found_one (partner_output T S i) r o e d) in
        omega arith

  pub step_in : (j : ℕ) {f v : ℕ} → f ≡ step_frame S j → v ≡ field_at T f 0 → Good T S → j < steps S → v < variables S
  step_in j p q g l = rw (q, p) (g.step_result j l)

  module _ (s : List ℕ) where
    pub change_is : (j : ℕ) {el b f to : ℕ} → el ≡ element_of s → b ≡ chart_state s el → f ≡ transition_frame S j → to ≡ field_at T f 1
        → differing b (entry chart_kind el 0 to) ≡ change_entries T S j s
    unfolding change_entries
    change_is j p q r u = rw (q, u, p, r)

    -- what the operation gives, by what was read
    pub result_of_lem : (f age : ℕ) {b c v w g x : ℕ} → v ≡ field_at T f 1 → b ≡ value S s v → w ≡ field_at T f 2 → c ≡ value S s w → g ≡ flag_at T f
        → x ≡ word (outcome g (signed b) (signed c) (pos age)).result → x ≡ result_of T S f age s
    unfolding result_of step_outcome
    result_of_lem f age p q r u w h = rw (h, w, q, u, p, r)

    pub result_is : (v x : ℕ) {f g k el b : ℕ} → f ≡ variable_frame S v → g ≡ flag_at T f → k ≡ result_kind g → el ≡ field_at T f 0 → b ≡ value S s v
        → differing b (entry k el v x) ≡ result_entry T S v x s
    unfolding result_entry
    result_is v x p q r u w = rw (w, r, q, u, p)

    -- step j
    module _ (j age : ℕ) {f v : ℕ} (p : f ≡ step_frame S j) (q : v ≡ field_at T f 0) where
      pub step_is : {x : ℕ} → x ≡ result_of T S f age s → result_entry T S v x s ≡ step_entries T S (step_frame S j) age s
      unfolding step_entries
      step_is r = rw (r, q, p)

    -- ---- the numbers, from the store after the move
    pub ended_is : (j : ℕ) {e : Entry} {f m el : ℕ} → e ≡ entry action_kind (element_of s) 0 (running_of s).action → f ≡ action_frame S j → m ≡ field_at T f 2 → el ≡ element_of s
        → (e ∷ []) ++ differing m (entry step_kind el 0 0) ≡ end_numbers T S j s
    unfolding end_numbers
    ended_is j p q r u = rw (p, r, q, u)

    module _ (n : Next) where
      by : {m : Next} → n ≡ m → numbers_by T S m s ≡ numbers_by T S n s
      by e = ap (λ (x : Next). numbers_by T S x s) (sym e)

      pub take_told : {i : ℕ} → n ≡ Take i → [] ≡ numbers_by T S n s
      unfolding numbers_by
      take_told e = by e

      pub change_told : {j : ℕ} {e : Entry} → n ≡ Change j → e ≡ entry action_kind (element_of s) 0 (running_of s).action → differing 0 e ≡ numbers_by T S n s
      unfolding numbers_by
      change_told h p = ap (differing 0) p ∙ by h

      pub idle_told : n ≡ Idle → [] ≡ numbers_by T S n s
      unfolding numbers_by
      idle_told e = by e

      pub step_told : {j : ℕ} {e : Entry} → n ≡ Step j → e ≡ entry step_kind (element_of s) 0 (running_of s).step → e ∷ [] ≡ numbers_by T S n s
      unfolding numbers_by
      step_told h p = ap (λ (x : Entry). x ∷ []) p ∙ by h

      pub end_told : {j : ℕ} → n ≡ End j → end_numbers T S j s ≡ numbers_by T S n s
      unfolding numbers_by
      end_told e = by e

      pub back_told : n ≡ Back → [] ≡ numbers_by T S n s
      unfolding numbers_by
      back_told e = by e

      pub nothing_told : n ≡ Nothing → [] ≡ numbers_by T S n s
      unfolding numbers_by
      nothing_told e = by e

  -- ---- the bytes of the numbers
  module _ (j : ℕ) {f to a : ℕ} (p : f ≡ transition_frame S j) (q : to ≡ field_at T f 1) (r : a ≡ action_number T S to 1) where
    number_is : a ≡ action_number T S (field_at T (transition_frame S j) 1) 1
    number_is = r ∙ ap (λ (x : ℕ). action_number T S x 1) (q ∙ ap (λ (x : ℕ). field_at T x 1) p)

    pub change_none : 0 ≡ a → ◌≡◌ {A = ℕ} 0 (choose (eqb 0 (action_number T S (field_at T (transition_frame S j) 1) 1)) 0 12)
    change_none e = sym (choose_true _ 0 12 (eq-eqb 0 _ (e ∙ number_is)))

    pub change_some : (0 ≡ a → ⊥) → ◌≡◌ {A = ℕ} 12 (choose (eqb 0 (action_number T S (field_at T (transition_frame S j) 1) 1)) 0 12)
    change_some n = sym (choose_false _ 0 12 (ne_eqb 0 _ (λ z. n (z ∙ sym number_is))))

  module _ (j : ℕ) {f m : ℕ} (p : f ≡ action_frame S j) (q : m ≡ field_at T f 2) where
    steps_are : m ≡ field_at T (action_frame S j) 2
    steps_are = q ∙ ap (λ (x : ℕ). field_at T x 2) p

    pub end_one : m ≡ 0 → ◌≡◌ {A = ℕ} 12 (choose (eqb (field_at T (action_frame S j) 2) 0) 12 24)
    end_one e = sym (choose_true _ 12 24 (eq-eqb _ 0 (sym steps_are ∙ e)))

    pub end_both : (m ≡ 0 → ⊥) → ◌≡◌ {A = ℕ} 24 (choose (eqb (field_at T (action_frame S j) 2) 0) 12 24)
    end_both n = sym (choose_false _ 12 24 (ne_eqb _ 0 (λ z. n (steps_are ∙ z))))
