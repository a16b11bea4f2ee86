-- Turns of the loops that tell what taking an event changes.
use Rattle.std.specs.Prelude.{◌≡◌, Bool, true, false, not, ℕ, ◌+◌, ◌<◌, eqb}
use Rattle.std.proofs.Math.Path.{refl, sym}
use Rattle.std.proofs.Common.{ap, ◌∙◌, ⊎_elim, eq-eqb, ne_eqb}
use mathlib.Core.List.{List, [], ◌∷◌, ◌++◌, append-nil}
use native.Mathlib.Omega.{arith}
use Rattle.rules_walks.specs.Pick.{both}
use Rattle.rules_walks.proofs.laws.Pick.{both_false, both_true, clash, tri}
use Rattle.rules_walks.specs.Choose.{choose}
use Rattle.rules_walks.proofs.laws.Choose.{choose_true, choose_false}
use Rattle.rules_walks.specs.All.{any_to}
use Rattle.rules_walks.proofs.laws.All.{any_stop, any_at, any_no}
use Rattle.rules_walks.proofs.laws.First.{first_in}
use Rattle.rules_tables.specs.Kind.{basic, interface, input, output, of_input}
use Rattle.rules_tables.specs.Frame.{frames_of, flag_at, field_at}
use Rattle.rules_tables.specs.declared.Shape.{Shape}
use Rattle.rules_tables.specs.Good.{Good}
use Rattle.rules_tables.specs.Ids.{first_variable, first_association, inputs, associations, variables, input_frame, association_frame, variable_frame}
use Rattle.rules_tables.specs.Owned.{belongs, rank, is_nth}
use Rattle.std.specs.Prelude.{Option, Some, None}
use Rattle.table_parts.specs.Found.{found_of}
use Rattle.table_parts.proofs.laws.Found.{found_one, found_missing}
use Rattle.table_index.specs.Leads.{Leads}
use Rattle.moves_fire.proofs.laws.Carrying.{speaks_belongs}
use Rattle.rules_store.specs.Word.{value, buffer}
use Rattle.rules_moves.specs.Partner.{input_owner, variable_owner, partner_output, partner_variable}
use Rattle.rules_moves.specs.Associated.{joins_variable, associated}
use Rattle.rules_moves.specs.Take.{fired_by}
use Rattle.rules_traces.specs.declared.Entry.{Entry}
use Rattle.rules_traces.specs.Kinds.{input_kind, output_kind, started_kind, selected_kind}
use Rattle.rules_traces.specs.Entry.{entry}
use Rattle.rules_traces.specs.Trace.{differing, finished_entry, finished_at_once, started_entry, selected_entry, emitted_entry}
use Rattle.moves_tell.specs.Told.{Told, Room}
use Rattle.moves_tell.proofs.laws.Told.{told_none, told_same, told_4, room_same, room_1, room_2, room_3, room_4}
use Rattle.moves_tell.specs.Before.{sampled_entry, passed_from, passed_entries, take_events}
use Rattle.moves_tell.specs.Pairs.{passed_to, partner_entry}

-- it is one of the table's
pub element_in : (T : List ℕ) (S : Shape) (i : ℕ) {el : ℕ} → Good T S → i < inputs S → el ≡ input_owner T S i → (el < 65536) × (el < frames_of T)
element_in T S i g l e =
    let h = g.input_element i l in
    let m = g.few_elements in
    (rw e (omega arith), rw e (omega (arith, g.to_inputs, g.to_outputs, g.to_variables, g.to_associations, g.to_states, g.to_transitions, g.to_actions, g.to_steps, g.to_connections, g.to_links, g.to_end)))

-- the element of event input i, as it is read
pub el_is : (T : List ℕ) (S : Shape) (i : ℕ) {f el : ℕ} → Good T S → i < inputs S → f ≡ input_frame S i → el ≡ field_at T f 0 → el ≡ input_owner T S i
el_is T S i g l p q = rw (← p) q

-- ---- a value that an event brings: it is told where the variable is associated and the value not as before
told_alone : (a same : Bool) (e : Entry) → both a (not same) ≡ true → e ∷ [] ≡ choose a (choose same [] (e ∷ [])) []
unfolding choose
told_alone true false e h = refl
told_alone true true e h = clash h
told_alone false same e h = clash h

untold : (a same : Bool) (e : Entry) → both a (not same) ≡ false → [] ≡ choose a (choose same [] (e ∷ [])) []
unfolding choose
untold true false e h = clash (sym h)
untold true true e h = refl
untold false same e h = refl

module _ (T : List ℕ) (S : Shape) (i : ℕ) where
  -- ---- a variable is looked for among the associations of the event
  module _ (v : ℕ) where
    -- those of other events do not join it
    joins_none : (j : ℕ) → belongs T (first_association S) of_input i j ≡ false → joins_variable T S i v j ≡ false
    unfolding joins_variable
    joins_none j e = rw (speaks_belongs T S of_input i j (omega arith) ∙ e)

    pub seek_first : {b n : ℕ} → Leads (belongs T (first_association S) of_input i) 0 b n → any_to (joins_variable T S i v) b ≡ false
    seek_first {b} l = any_no _ b (λ j u. joins_none j (l.skipped j (omega arith) u))

    module _ (j : ℕ) {f x : ℕ} (own : belongs T (first_association S) of_input i j ≡ true) (p : f ≡ association_frame S j) (q : x ≡ field_at T f 1) where
      joins_is : joins_variable T S i v j ≡ eqb x v
      unfolding joins_variable
      joins_is = rw (speaks_belongs T S of_input i j (omega arith) ∙ own, q, p)

      pub seek_hit : j < associations S → x ≡ v → true ≡ associated T S i v
      seek_hit l e = sym (any_stop _ (associations S) j l (joins_is ∙ eq-eqb x v e))

      pub seek_more : {b n : ℕ} → (x ≡ v → ⊥) → Leads (belongs T (first_association S) of_input i) (j + 1) b n → any_to (joins_variable T S i v) j ≡ false
          → any_to (joins_variable T S i v) b ≡ false
      seek_more {b} d l h =
          any_no _ b
          (λ c u.
          ⊎_elim (λ lt. any_at _ j c lt h) (λ w. ⊎_elim (λ e. ap (joins_variable T S i v) e ∙ joins_is ∙ ne_eqb x v d) (λ gt. joins_none c (l.skipped c (omega arith) u)) w)
          (tri c j))

    pub seek_end : {j : ℕ} → j ≡ associations S → any_to (joins_variable T S i v) j ≡ false → false ≡ associated T S i v
    seek_end e h = sym (rw e at h)

  -- ---- an input, and an output that gets what input v got: told where it will differ from before
  module _ (s : List ℕ) (v u : ℕ) {x y : ℕ} (p : x ≡ value S s u) (q : y ≡ buffer S s v) where
    pub differs_not : x ≡ y → false ≡ both (associated T S i v) (not (eqb (value S s u) (buffer S s v)))
    differs_not e = rw (eq-eqb (value S s u) (buffer S s v) (sym p ∙ e ∙ q)) (sym (both_false (associated T S i v)))

    pub differs_if : (x ≡ y → ⊥) → {r : Bool} → r ≡ associated T S i v → r ≡ both (associated T S i v) (not (eqb (value S s u) (buffer S s v)))
    differs_if d h = rw (ne_eqb (value S s u) (buffer S s v) (λ z. d (p ∙ z ∙ sym q))) (h ∙ sym (both_true (associated T S i v)))

  module _ (s : List ℕ) (v u : ℕ) {b : Bool} (h : b ≡ both (associated T S i v) (not (eqb (value S s u) (buffer S s v)))) where
    pub passed_none : b ≡ false → [] ≡ passed_from T S i s u v
    unfolding passed_from differing
    passed_none e = untold (associated T S i v) (eqb (value S s u) (buffer S s v)) _ (sym h ∙ e)

    pub passed_is : b ≡ true → {f el x : ℕ} → f ≡ variable_frame S u → el ≡ field_at T f 0 → x ≡ buffer S s v → entry output_kind el u x ∷ [] ≡ passed_from T S i s u v
    unfolding passed_from differing
    passed_is e p q r = rw (r, q, p) (told_alone (associated T S i v) (eqb (value S s u) (buffer S s v)) _ (sym h ∙ e))

  module _ (s : List ℕ) (v : ℕ) {b : Bool} (h : b ≡ both (associated T S i v) (not (eqb (value S s v) (buffer S s v)))) where
    pub sampled_none : b ≡ false → [] ≡ sampled_entry T S i s v
    unfolding sampled_entry differing
    sampled_none e = untold (associated T S i v) (eqb (value S s v) (buffer S s v)) _ (sym h ∙ e)

    pub sampled_is : b ≡ true → {f el x : ℕ} → f ≡ variable_frame S v → el ≡ field_at T f 0 → x ≡ buffer S s v → entry input_kind el v x ∷ [] ≡ sampled_entry T S i s v
    unfolding sampled_entry differing
    sampled_is e p q r = rw (r, q, p) (told_alone (associated T S i v) (eqb (value S s v) (buffer S s v)) _ (sym h ∙ e))

  -- the partner of input v, as the search answered
  module _ (s : List ℕ) (v : ℕ) (r : Option ℕ) (e : r ≡ found_of (partner_variable T S v)) where
    pub pass_none : r ≡ None → [] ≡ partner_entry T S i s v
    unfolding partner_entry passed_to
    pass_none d = rw (found_missing (partner_variable T S v) r e d)

    pub pass_one : {u : ℕ} → r ≡ Some u → passed_from T S i s u v ≡ partner_entry T S i s v
    unfolding partner_entry passed_to
    pass_one {u} d = rw (found_one (partner_variable T S v) r u e d)

    pub pass_in : {u : ℕ} → r ≡ Some u → u < variables S
    unfolding partner_variable
    pass_in {u} d =
        let el = variable_owner T S v in
        let h = first_in (is_nth T (first_variable S) output el (rank T (first_variable S) input el v)) 0 (variables S) u (found_one (partner_variable T S v) r u e d) in
        omega arith

  -- ---- inputs, and of an interface outputs
  module _ (s : List ℕ) {g el : ℕ} (a : el ≡ input_owner T S i) (b : g ≡ flag_at T el) where
    sort_is_lem : g ≡ flag_at T (input_owner T S i)
    sort_is_lem = rw (← a) b

    pub plain_values : (g ≡ interface → ⊥) → (x : List Entry) → x ++ choose (eqb (flag_at T (input_owner T S i)) interface) (passed_entries T S i s) [] ≡ x
    plain_values n x = rw (choose_false (eqb (flag_at T (input_owner T S i)) interface) (passed_entries T S i s) [] (ne_eqb _ interface (λ z. n (sort_is_lem ∙ z)))) (append-nil x)

    pub interface_values : g ≡ interface → choose (eqb (flag_at T (input_owner T S i)) interface) (passed_entries T S i s) [] ≡ passed_entries T S i s
    interface_values e = choose_true _ _ [] (eq-eqb _ interface (sym sort_is_lem ∙ e))

    -- ---- the event that is fired, if any
    pub plain_event : (g ≡ interface → ⊥) → [] ≡ emitted_entry T S (fired_by T S i)
    unfolding fired_by emitted_entry choose
    plain_event n = rw (ne_eqb (flag_at T (input_owner T S i)) interface (λ z. n (sort_is_lem ∙ z))) refl

    pub interface_event : g ≡ interface → emitted_entry T S (partner_output T S i) ≡ emitted_entry T S (fired_by T S i)
    unfolding fired_by choose
    interface_event e = rw (eq-eqb (flag_at T (input_owner T S i)) interface (sym sort_is_lem ∙ e)) refl

-- ---- the end of the block, at once or not
module _ (T : List ℕ) (el : ℕ) {g : ℕ} (b : g ≡ flag_at T el) where
  pub not_at_once : g ≡ basic → [] ≡ finished_at_once T el
  unfolding finished_at_once
  not_at_once e = sym (choose_true _ [] (finished_entry el) (eq-eqb _ basic (sym b ∙ e)))

  pub at_once : (g ≡ basic → ⊥) → finished_entry el ≡ finished_at_once T el
  unfolding finished_at_once
  at_once n = sym (choose_false _ [] (finished_entry el) (ne_eqb _ basic (λ z. n (b ∙ z))))

-- ---- what happens when an event is taken, one after another
module _ (T : List ℕ) (S : Shape) (i : ℕ) {el : ℕ} (good : Good T S) (known : i < inputs S) (is : el ≡ input_owner T S i) (at : ℕ) (tr : List ℕ) (w : Room (take_events T S i) at tr) where
  abbrev own : ℕ
  own = input_owner T S i

  abbrev last : List Entry
  last = emitted_entry T S (fired_by T S i)

  whole : Room (started_entry own ++ finished_at_once T own ++ selected_entry own i ++ last) at tr
  unfolding take_events
  whole = w

  started_is : {e : Entry} → e ≡ entry started_kind el 0 1 → e ∷ [] ≡ started_entry own
  started_is q = rw (q, is)

  selected_is : {e : Entry} → e ≡ entry selected_kind el i 1 → e ∷ [] ≡ selected_entry own i
  selected_is q = rw (q, is)

  pub started_room : {e : Entry} → e ≡ entry started_kind el 0 1 → Room (e ∷ []) at tr
  started_room q = room_same (sym (started_is q)) (room_1 (started_entry own) (finished_at_once T own) (selected_entry own i) last at tr whole)

  module _ {e : Entry} (q : e ≡ entry started_kind el 0 1) {p : ℕ} {tr₁ : List ℕ} (ta : Told (e ∷ []) at tr tr₁ p) where
    ta' : Told (started_entry own) at tr tr₁ p
    ta' = told_same (started_is q) ta

    pub finished_room : Room (finished_at_once T el) p tr₁
    finished_room = room_same (ap (finished_at_once T) (sym is)) (room_2 (started_entry own) (finished_at_once T own) (selected_entry own i) last at tr whole ta')

    module _ {p₂ : ℕ} {tr₂ : List ℕ} (tb : Told (finished_at_once T el) p tr₁ tr₂ p₂) where
      tb' : Told (finished_at_once T own) p tr₁ tr₂ p₂
      tb' = told_same (ap (finished_at_once T) is) tb

      pub selected_room : {f : Entry} → f ≡ entry selected_kind el i 1 → Room (f ∷ []) p₂ tr₂
      selected_room z = room_same (sym (selected_is z)) (room_3 (started_entry own) (finished_at_once T own) (selected_entry own i) last at tr whole ta' tb')

      module _ {f : Entry} (z : f ≡ entry selected_kind el i 1) {p₃ : ℕ} {tr₃ : List ℕ} (tc : Told (f ∷ []) p₂ tr₂ tr₃ p₃) {g : ℕ} (sort : g ≡ flag_at T el) where
        tc' : Told (selected_entry own i) p₂ tr₂ tr₃ p₃
        tc' = told_same (selected_is z) tc

        all_told : {r : ℕ} {tr₄ : List ℕ} → Told last p₃ tr₃ tr₄ r → Told (take_events T S i) at tr tr₄ r
        unfolding take_events
        all_told td = told_4 (started_entry own) (finished_at_once T own) (selected_entry own i) last at tr whole ta' tb' tc' td

        pub plain_told : (g ≡ interface → ⊥) → Told (take_events T S i) at tr tr₃ p₃
        plain_told n = all_told (told_same (plain_event T S i [] is sort n) (told_none p₃ tr₃))

        pub partner_room : g ≡ interface → Room (emitted_entry T S (partner_output T S i)) p₃ tr₃
        partner_room e =
            room_same (sym (interface_event T S i [] is sort e)) (room_4 (started_entry own) (finished_at_once T own) (selected_entry own i) last at tr whole ta' tb' tc')

        pub partner_told : g ≡ interface → {r : ℕ} {tr₄ : List ℕ} → Told (emitted_entry T S (partner_output T S i)) p₃ tr₃ tr₄ r → Told (take_events T S i) at tr tr₄ r
        partner_told e td = all_told (told_same (interface_event T S i [] is sort e) td)
