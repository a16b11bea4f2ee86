-- What a frame that refers rightly refers to: the parts of refusal 3's tests, each as a fact.
use Rattle.std.specs.Prelude.{◌≡◌, List, true, not, ℕ, ◌+◌, ◌≤◌, ◌<◌}
use Rattle.std.proofs.Math.Path.{refl}
use Rattle.std.proofs.Common.{sym, ◌∙◌, arith}
use Rattle.std.proofs.Math.Dec.{eqb, leb}
use borrow.Author.Tests.{ltb-true, leb-true, eqb-true, eqb-false, eq-eqb, ne_eqb, lt-ltb, lt-leb}
use Rattle.rules_walks.specs.Pick.{both}
use Rattle.rules_walks.proofs.laws.Pick.{both_left, both_right, both3, both5, either_else, not_back, clash}
use Rattle.rules_walks.specs.All.{all_to}
use Rattle.rules_walks.proofs.laws.All.{all_at}
use Rattle.rules_tables.specs.Kind.{element, event_input, event_output, variable, association, chart_state, transition, action, step, event_connection, data_connection, none}
use Rattle.rules_tables.specs.Frame.{kind_at, flag_at, field_at}
use Rattle.rules_tables.specs.Place.{count_to, count_of, exists, owner_of, flag_of, owned_by, sort_is}
use Rattle.rules_tables.specs.Form.{used_of, steps_ok}
use Rattle.rules_tables.proofs.laws.Formed.{guarded_uses}
use Rattle.rules_tables.specs.Reference.{initial_state, of_element, joins, associates, of_basic, maybe_owned, uses_own, transits, result_of, steps_of, acts, steps_to, connects_events, variable_with, connects_data, refers_as, refers_ok}
use Rattle.rules_tables.specs.Accepted.{Owned, OfSort, OfFlag, Association, Transition, Action, Step, EventConnection, DataConnection}

module _ (T : List ℕ) where
  -- ---- the tests that the rules are made of
  owned : (k id el : ℕ) → owned_by T k id el ≡ true → Owned T k id el
  unfolding owned_by
  owned k id el h =
      let a = exists T k id in
      let b = eqb (owner_of T k id) el in
      record { exists = ltb-true _ _ (both_left a b h); own = eqb-true _ _ (both_right a b h) }

  maybe_owned_lem : (k id el : ℕ) → maybe_owned T k id el ≡ true → (id ≡ none → ⊥) → Owned T k id el
  unfolding maybe_owned
  maybe_owned_lem k id el h ne = owned k id el (either_else (eqb id none) (owned_by T k id el) h (ne_eqb id none ne))

  uses_own_lem : (f j el : ℕ) → uses_own T f j el ≡ true → j < used_of (kind_at T f) (flag_at T f) → Owned T variable (field_at T f j) el
  unfolding uses_own
  uses_own_lem f j el h l =
      let u = used_of (kind_at T f) (flag_at T f) in
      owned variable (field_at T f j) el (either_else (leb u j) (owned_by T variable (field_at T f j) el) h (lt-leb u j l))

  of_sort : (el sort : ℕ) → sort_is T el sort ≡ true → OfSort T el sort
  unfolding sort_is
  of_sort el sort h =
      let a = exists T element el in
      let b = eqb (flag_of T element el) sort in
      record { exists = ltb-true _ _ (both_left a b h); is = eqb-true _ _ (both_right a b h) }

  -- there is no other answer
  sort_is_lem : (el sort : ℕ) → OfSort T el sort → sort_is T el sort ≡ true
  unfolding sort_is
  sort_is_lem el sort w = rw (lt-ltb el (count_of T element) w.exists, eq-eqb (flag_of T element el) sort w.is)

  of_flag : (v g : ℕ) → variable_with T v g ≡ true → OfFlag T v g
  unfolding variable_with
  of_flag v g h =
      let a = exists T variable v in
      let b = eqb (flag_of T variable v) g in
      record { exists = ltb-true _ _ (both_left a b h); is = eqb-true _ _ (both_right a b h) }

  joined : (f k g : ℕ) → joins T f k g ≡ true → Association T f k g
  unfolding joins
  joined f k g h =
      let a = exists T k (field_at T f 0) in
      let b = owned_by T variable (field_at T f 1) (owner_of T k (field_at T f 0)) in
      let c = eqb (flag_of T variable (field_at T f 1)) g in
      let w = both3 a b c h in
      record { event = ltb-true _ _ w.0; owned = owned variable (field_at T f 1) (owner_of T k (field_at T f 0)) w.1; flag = eqb-true _ _ w.2 }

  -- ---- kind by kind
  module _ (f : ℕ) where
    refers_as_lem : (k : ℕ) → kind_at T f ≡ k → refers_ok T f ≡ true → refers_as k T f ≡ true
    unfolding refers_ok
    refers_as_lem k e h = rw e at h

    pub initial : kind_at T f ≡ element → refers_ok T f ≡ true → flag_at T f ≡ 0 → Owned T chart_state (field_at T f 1) (count_to T element f)
    unfolding refers_as initial_state
    initial k h e =
        owned chart_state (field_at T f 1) (count_to T element f)
        (either_else (not (eqb (flag_at T f) 0)) (owned_by T chart_state (field_at T f 1) (count_to T element f)) (refers_as_lem element k h) (rw e refl))

    pub input_of : kind_at T f ≡ event_input → refers_ok T f ≡ true → field_at T f 0 < count_of T element
    unfolding refers_as of_element
    input_of k h = ltb-true _ _ (refers_as_lem event_input k h)

    pub output_of : kind_at T f ≡ event_output → refers_ok T f ≡ true → field_at T f 0 < count_of T element
    unfolding refers_as of_element
    output_of k h = ltb-true _ _ (refers_as_lem event_output k h)

    pub variable_of : kind_at T f ≡ variable → refers_ok T f ≡ true → field_at T f 0 < count_of T element
    unfolding refers_as of_element
    variable_of k h = ltb-true _ _ (refers_as_lem variable k h)

    pub input_joined : kind_at T f ≡ association → refers_ok T f ≡ true → flag_at T f ≡ 0 → Association T f event_input 0
    unfolding refers_as associates
    input_joined k h e = joined f event_input 0 (rw e at (refers_as_lem association k h))

    outputs_joined : kind_at T f ≡ association → refers_ok T f ≡ true → flag_at T f ≡ 1
        → both (joins T f event_output 1) (not (sort_is T (owner_of T event_output (field_at T f 0)) 1)) ≡ true
    unfolding refers_as associates
    outputs_joined k h e = rw e at (refers_as_lem association k h)

    pub output_joined : kind_at T f ≡ association → refers_ok T f ≡ true → flag_at T f ≡ 1 → Association T f event_output 1
    output_joined k h e =
        joined f event_output 1 (both_left (joins T f event_output 1) (not (sort_is T (owner_of T event_output (field_at T f 0)) 1)) (outputs_joined k h e))

    pub no_interface : kind_at T f ≡ association → refers_ok T f ≡ true → flag_at T f ≡ 1 → OfSort T (owner_of T event_output (field_at T f 0)) 1 → ⊥
    no_interface k h e w =
        let el = owner_of T event_output (field_at T f 0) in
        clash (sym (not_back (sort_is T el 1) (both_right (joins T f event_output 1) (not (sort_is T el 1)) (outputs_joined k h e))) ∙ sort_is_lem el 1 w)

    pub state_of : kind_at T f ≡ chart_state → refers_ok T f ≡ true → OfSort T (field_at T f 0) 0
    unfolding refers_as of_basic
    state_of k h = of_sort (field_at T f 0) 0 (refers_as_lem chart_state k h)

    pub transition_of : kind_at T f ≡ transition → refers_ok T f ≡ true → Transition T f (owner_of T chart_state (field_at T f 0))
    unfolding refers_as transits
    transition_of k h =
        let el = owner_of T chart_state (field_at T f 0) in
        let a = exists T chart_state (field_at T f 0) in
        let b = owned_by T chart_state (field_at T f 1) el in
        let c = maybe_owned T event_input (field_at T f 2) el in
        let w = both5 a b c (uses_own T f 3 el) (uses_own T f 4 el) (refers_as_lem transition k h) in
        record {
          from = record { exists = ltb-true _ _ w.0; own = refl };
          to = owned chart_state (field_at T f 1) el w.1;
          event = maybe_owned_lem event_input (field_at T f 2) el w.2;
          left = λ ne. uses_own_lem f 3 el w.3 (rw (k, guarded_uses (flag_at T f) ne) (omega arith));
          right = λ ne. uses_own_lem f 4 el w.4 (rw (k, guarded_uses (flag_at T f) ne) (omega arith));
        }

    -- n steps from step b on, with results of element el
    steps_exist : (b n el : ℕ) → steps_of T b n el ≡ true → (n ≡ 0 → ⊥) → (b + n ≤ count_of T step) × (all_to (result_of T b el) n ≡ true)
    unfolding steps_of
    steps_exist b n el h ne =
        let a = leb (b + n) (count_of T step) in
        let d = all_to (result_of T b el) n in
        let w = either_else (eqb n 0) (both a d) h (ne_eqb n 0 ne) in
        (leb-true _ _ (both_left a d w), both_right a d w)

    result_at : (b n el i : ℕ) → steps_of T b n el ≡ true → i < n → Owned T variable (owner_of T step (b + i)) el
    unfolding result_of
    result_at b n el i h l =
        owned variable (owner_of T step (b + i)) el (all_at (result_of T b el) n i l (steps_exist b n el h (λ e. omega arith)).1)

    pub action_of : kind_at T f ≡ action → steps_ok T f ≡ true → refers_ok T f ≡ true → Action T f (owner_of T chart_state (field_at T f 0))
    unfolding refers_as acts steps_ok
    action_of k s h =
        let el = owner_of T chart_state (field_at T f 0) in
        let a = exists T chart_state (field_at T f 0) in
        let b = steps_of T (field_at T f 1) (field_at T f 2) el in
        let c = maybe_owned T event_output (field_at T f 3) el in
        let w = both3 a b c (refers_as_lem action k h) in
        record {
          state = record { exists = ltb-true _ _ w.0; own = refl };
          few = leb-true _ _ (either_else (not (eqb (kind_at T f) action)) (leb (field_at T f 2) 64) s (rw k refl));
          steps = λ ne. (steps_exist (field_at T f 1) (field_at T f 2) el w.1 ne).0;
          results = λ i l. result_at (field_at T f 1) (field_at T f 2) el i w.1 l;
          event = maybe_owned_lem event_output (field_at T f 3) el w.2;
        }

    pub step_of : kind_at T f ≡ step → refers_ok T f ≡ true → Step T f (owner_of T variable (field_at T f 0))
    unfolding refers_as steps_to
    step_of k h =
        let el = owner_of T variable (field_at T f 0) in
        let a = exists T variable (field_at T f 0) in
        let b = eqb (flag_of T variable (field_at T f 0)) 0 in
        let w = both5 a (not b) (sort_is T el 0) (uses_own T f 1 el) (uses_own T f 2 el) (refers_as_lem step k h) in
        record {
          basic = of_sort el 0 w.2;
          result = record { exists = ltb-true _ _ w.0; own = refl };
          not_input = eqb-false _ _ (not_back b w.1);
          left = λ l. uses_own_lem f 1 el w.3 (rw k l);
          right = λ l. uses_own_lem f 2 el w.4 (rw k l);
        }

    pub connected : kind_at T f ≡ event_connection → refers_ok T f ≡ true → EventConnection T f
    unfolding refers_as connects_events
    connected k h =
        let a = exists T event_output (field_at T f 0) in
        let b = exists T event_input (field_at T f 1) in
        let e = refers_as_lem event_connection k h in
        record { output = ltb-true _ _ (both_left a b e); input = ltb-true _ _ (both_right a b e) }

    pub linked : kind_at T f ≡ data_connection → refers_ok T f ≡ true → DataConnection T f
    unfolding refers_as connects_data
    linked k h =
        let a = variable_with T (field_at T f 0) 1 in
        let b = variable_with T (field_at T f 1) 0 in
        let e = refers_as_lem data_connection k h in
        record { source = of_flag (field_at T f 0) 1 (both_left a b e); destination = of_flag (field_at T f 1) 0 (both_right a b e) }
