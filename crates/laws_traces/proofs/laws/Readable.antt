-- Each frame of a move from a well-formed store names what the table has, and its numbers fit. It rests on the stores being well formed before and after the
-- move, on what the search for the next move found, and on values of 32 bits.
use Rattle.std.proofs.Math.Path.{◌≡◌, refl, sym, ap}
use Rattle.std.proofs.Common.{◌∙◌}
use mathlib.Core.List.{List, [], ◌∷◌}
use Rattle.std.specs.Prelude.{Bool, ℕ, ◌-◌, ◌<◌}
use Rattle.std.proofs.Math.Bool.{true, false}
use Rattle.std.proofs.Math.Logic.{⊎_elim}
use native.Mathlib.Omega.{arith}
use Rattle.std.proofs.Math.Dec.{eqb}
use borrow.Author.Tests.{eqb-true, eqb-false, leb-true}
use Rattle.rules_walks.specs.Choose.{choose}
use Rattle.rules_walks.proofs.laws.Choose.{by_choose}
use Rattle.rules_walks.specs.Pick.{both}
use Rattle.rules_walks.proofs.laws.Pick.{both_left, both_right, test_cases}
use Rattle.rules_walks.specs.First.{Sought, one, missing}
use Rattle.rules_walks.proofs.laws.First.{first_in, first_true}
use Rattle.rules_tables.specs.Kind.{basic, interface, none as «no_event», input, output, internal}
use Rattle.rules_tables.specs.Frame.{Table, flag_at, field_at}
use Rattle.rules_tables.specs.declared.Shape.{Shape}
use Rattle.rules_tables.specs.Ids.{elements, first_input, first_output, outputs, variables, transitions, actions, variable_frame, state_frame, transition_frame, action_frame}
use Rattle.rules_tables.specs.Owned.{any, rank, is_nth, nth}
use Rattle.rules_tables.specs.Actions.{action_of}
use Rattle.rules_tables.proofs.laws.Actions.{action_below, action_few}
use Rattle.rules_tables.specs.Good.{Good}
use Rattle.rules_store.specs.declared.Running.{Running}
use Rattle.rules_store.specs.Word.{Store, chart_state, value, running_of, running_element, current_event}
use Rattle.rules_store.specs.WellFormed.{step_ok}
use Rattle.rules_store.specs.Formed.{Mode, Busy, Formed}
use Rattle.rules_moves.specs.Partner.{input_owner, variable_owner, partner_output}
use Rattle.rules_moves.specs.Chart.{heard, guard_holds, enabled, transition_of, element_of, state_of}
use Rattle.rules_moves.specs.Take.{fired_by}
use Rattle.rules_moves.specs.Act.{event_of}
use Rattle.rules_moves.specs.declared.Next.{Next}
use Rattle.rules_moves.specs.declared.Next.TheVariants.{Take, Change, Idle, Step, End, Back, Nothing}
use Rattle.rules_moves.specs.Next.{next_of, move_by}
use Rattle.rules_moves.specs.Means.{Means}
use Rattle.rules_moves.proofs.laws.Next.{next_means}
use Rattle.rules_traces.specs.declared.Entry.{Entry}
use Rattle.rules_traces.specs.Kinds.{chart_kind, internal_kind, input_kind, output_kind, action_kind, step_kind}
use Rattle.rules_traces.specs.Entry.{entry}
use Rattle.rules_traces.specs.Trace.{differing, chart_entry, value_entry, changes, number_changes, finished_entry, finished_at_once, emitted_entry, events, first_entries, entries_between, entries_by, entries_of}
use Rattle.rules_traces.specs.Reader.{of_variable, right_kind}
use Rattle.laws_traces.specs.Each.{Each, none, more}
use Rattle.laws_traces.specs.Fits.{Right}
use Rattle.rules_traces.specs.Traceable.{Traceable}
use Rattle.laws_traces.specs.Wide.{Wide}
use Rattle.laws_traces.proofs.laws.Each.{each_append, each_gather}
use Rattle.laws_traces.proofs.laws.Right.{few_actions, right_chart, right_value, right_started, right_finished, right_selected, right_emitted, right_enabled, right_action, right_step}

module _ (T : Table) (S : Shape) (k : Traceable T S) where
  abbrev g : Good T S
  g = k.is_lawful.is_good

  abbrev AllRight : List Entry → Type 0
  AllRight es = Each (Right T S) es

  -- ---- what differs
  differs : (before : ℕ) (e : Entry) → ((before ≡ e.value → ⊥) → Right T S e) → AllRight (differing before e)
  unfolding differing
  differs before e h =
      by_choose AllRight (eqb before e.value) [] (e ∷ []) (λ _. none) (λ q. more (h (eqb-false before e.value q)) none)

  module _ (s s' : Store) (f : Formed T S s) (f' : Formed T S s') (w : Wide S s') where
    -- a chart state that differs is a basic element's, and so its own
    chart_right : (el : ℕ) → el < elements S → AllRight (chart_entry s s' el)
    unfolding chart_entry
    chart_right el l =
        differs (chart_state s el) (entry chart_kind el 0 (chart_state s' el))
        (λ n.
        ⊎_elim (λ b. right_chart T S g el (chart_state s' el) l ((f'.parts.charts el l).basic (eqb-true (flag_at T el) 0 b)))
        (λ b. let o = eqb-false (flag_at T el) 0 b in absurd (n ((f.parts.charts el l).other o ∙ sym ((f'.parts.charts el l).other o)))) (test_cases (eqb (flag_at T el) 0)))

    value_right : (role kind : ℕ) → kind < 256 → ((b i n : ℕ) → right_kind T S (entry kind b i n) ≡ of_variable T S role (entry kind b i n))
        → (v : ℕ) → v < variables S → AllRight (value_entry T S role kind s s' v)
    unfolding value_entry
    value_right role kind few is v l =
        by_choose AllRight (eqb (flag_at T (variable_frame S v)) role) _ []
        (λ e.
        differs (value S s v) (entry kind (variable_owner T S v) v (value S s' v))
        (λ _. right_value T S g role kind v (value S s' v) few is l (eqb-true (flag_at T (variable_frame S v)) role e) (w.values v l))) (λ _. none)

    changes_right : AllRight (changes T S s s')
    unfolding changes right_kind
    changes_right =
        each_append (Right T S)
        (each_append (Right T S)
        (each_append (Right T S) (each_gather (Right T S) (chart_entry s s') (elements S) chart_right)
        (each_gather (Right T S) (value_entry T S internal internal_kind s s') (variables S) (value_right internal internal_kind (omega arith) (λ b i n. refl))))
        (each_gather (Right T S) (value_entry T S input input_kind s s') (variables S) (value_right input input_kind (omega arith) (λ b i n. refl))))
        (each_gather (Right T S) (value_entry T S output output_kind s s') (variables S) (value_right output output_kind (omega arith) (λ b i n. refl)))

  -- ---- action and step number of a well-formed store
  step_few : (r : Running) (q : ℕ) (x : Sought) → action_of T S q r.action ≡ x → step_ok T S r x ≡ true → (r.action < 4294967296) × (r.step < 4294967296)
  unfolding step_ok
  step_few r q (one j) e h =
      let a = action_few T S q r.action j e in
      let m = few_actions T S g in
      let b = k.few_steps j (action_below T S q r.action j e) in
      let c = leb-true r.step (field_at T (action_frame S j) 2) h in (omega arith, omega arith)
  step_few r q missing e h =
      let a = eqb-true r.action 0 (both_left (eqb r.action 0) (eqb r.step 0) h) in
      let b = eqb-true r.step 0 (both_right (eqb r.action 0) (eqb r.step 0) h) in (omega arith, omega arith)

  mode_few : (r : Running) (q : ℕ) → Mode T S r q → (r.action < 4294967296) × (r.step < 4294967296)
  mode_few r q m =
      ⊎_elim (λ e. let c = m.charting (eqb-true r.mode 1 e) in let a = c.1 in let b = c.2 in (omega arith, omega arith))
      (λ e. let c = m.acting (eqb-false r.mode 1 e) in step_few r q (action_of T S q r.action) refl c.2) (test_cases (eqb r.mode 1))

  numbers_few : (s : Store) → Formed T S s → ((running_of s).action < 4294967296) × ((running_of s).step < 4294967296)
  numbers_few s f =
      ⊎_elim (λ e. let r = f.block.idle (eqb-true (running_of s).mode 0 e) in let a = r.action in let b = r.step in (omega arith, omega arith))
      (λ e. let b = f.block.busy (eqb-false (running_of s).mode 0 e) in mode_few (running_of s) (chart_state s (running_element s - 1)) b.mode) (test_cases (eqb (running_of s).mode 0))

  numbers_right : (el : ℕ) (r : Running) (s' : Store) → el < elements S → Formed T S s' → AllRight (number_changes el r (running_of s'))
  unfolding number_changes
  numbers_right el r s' l f =
      let w = numbers_few s' f in
      each_append (Right T S) (differs r.action (entry action_kind el 0 (running_of s').action) (λ _. right_action T S g el (running_of s').action l w.0))
      (differs r.step (entry step_kind el 0 (running_of s').step) (λ _. right_step T S g el (running_of s').step l w.1))

  -- nothing differs from itself
  numbers_none : (el : ℕ) (r : Running) → AllRight (number_changes el r r)
  unfolding number_changes
  numbers_none el r =
      each_append (Right T S) (differs r.action (entry action_kind el 0 r.action) (λ n. absurd (n refl))) (differs r.step (entry step_kind el 0 r.step) (λ n. absurd (n refl)))

  -- ---- what happens
  emitted_right : (q : Sought) → ((o : ℕ) → q ≡ one o → o < outputs S) → AllRight (emitted_entry T S q)
  unfolding emitted_entry
  emitted_right (one o) h = more (right_emitted T S g o (h o refl)) none
  emitted_right missing h = none

  finished_right : (el : ℕ) → el < elements S → AllRight (finished_at_once T el)
  unfolding finished_at_once
  finished_right el l = by_choose AllRight (eqb (flag_at T el) basic) [] (finished_entry el) (λ _. none) (λ _. more (right_finished T S g el l) none)

  fired_below : (i o : ℕ) → fired_by T S i ≡ one o → o < outputs S
  unfolding fired_by choose partner_output
  fired_below i o = by (eqb (flag_at T (input_owner T S i)) interface)
    where
      by : (b : Bool) → choose b (nth T (first_output S) (outputs S) any (input_owner T S i) (rank T (first_input S) any (input_owner T S i) i)) missing ≡ one o → o < outputs S
      by true e = let h = first_in (is_nth T (first_output S) any (input_owner T S i) (rank T (first_input S) any (input_owner T S i) i)) 0 (outputs S) o e in omega arith
      by false e = absurd (let z : ◌≡◌ {A = ℕ} 0 1 = cc in omega arith)

  event_below : (j o : ℕ) → j < actions S → event_of T S j ≡ one o → o < outputs S
  unfolding event_of choose
  event_below j o l = by (eqb (field_at T (action_frame S j) 3) «no_event») refl
    where
      by : (b : Bool) → eqb (field_at T (action_frame S j) 3) «no_event» ≡ b → choose b missing (one (field_at T (action_frame S j) 3)) ≡ one o → o < outputs S
      by true z e = absurd (let y : ◌≡◌ {A = ℕ} 0 1 = cc in omega arith)
      by false z e =
          let h = g.action_event j l (eqb-false (field_at T (action_frame S j) 3) «no_event» z) in
          let q : field_at T (action_frame S j) 3 ≡ o = cc in
          omega arith

  module _ (s : Store) (f : Formed T S s) where
    abbrev el : ℕ
    el = element_of s

    busy : ((running_of s).mode ≡ 0 → ⊥) → Busy T S s
    busy n = f.block.busy n

    running_in : ((running_of s).mode ≡ 0 → ⊥) → el < elements S
    running_in n = let o = (busy n).owner in let a = o.element in let b = o.within in omega arith

    -- a transition that is made leaves the present state, which is the running element's own
    transition_right : (j : ℕ) → ((running_of s).mode ≡ 0 → ⊥) → transition_of T S s (state_of s) (current_event s) (running_of s).live ≡ one j
        → (j < transitions S) × (field_at T (state_frame S (field_at T (transition_frame S j) 0)) 0 ≡ el)
    unfolding transition_of enabled
    transition_right j n e =
        let p = enabled T S s (state_of s) (current_event s) (running_of s).live in
        let a = first_in p 0 (transitions S) j e in
        let b = first_true p 0 (transitions S) j e in
        let x = field_at T (transition_frame S j) 0 in
        let c = eqb-true x (state_of s) (both_left (eqb x (state_of s)) (both (heard (field_at T (transition_frame S j) 2) (current_event s) (running_of s).live) (guard_holds T S s j)) b) in
        let d = ((f.parts.charts el (running_in n)).basic (busy n).owner.basic).own in (omega arith, ap (λ (q : ℕ). field_at T (state_frame S q) 0) c ∙ d)

    events_right : (n : Next) → Means T S (running_of s) s n → AllRight (events T S n s)
    unfolding events
    events_right (Take i) m =
        let l = m.1.inside in
        let h = g.input_element i l in
        each_append (Right T S)
        (each_append (Right T S)
        (each_append (Right T S) (more (right_started T S g (input_owner T S i) h) none) (finished_right (input_owner T S i) h))
        (more (right_selected T S g i l) none))
        (emitted_right (fired_by T S i) (fired_below i))
    events_right (Change j) m =
        let n : (running_of s).mode ≡ 0 → ⊥ = λ z. omega (arith, m.0) in
        let w = transition_right j n m.1 in
        more (right_enabled T S g el j (running_in n) w.0 w.1) none
    events_right Idle m = more (right_finished T S g el (running_in (λ z. omega (arith, m.0)))) none
    events_right (Step j) m = none
    events_right (End j) m = emitted_right (event_of T S j) (λ o. event_below j o (action_below T S (state_of s) (running_of s).action j m.found))
    events_right Back m = none
    events_right Nothing m = none

    -- the running element, or the first where none runs and an event is taken
    number_in : (n : Next) → Means T S (running_of s) s n → (s' : Store) → Formed T S s' → (t : ℕ) → s' ≡ move_by T S t n s
        → AllRight (number_changes el (running_of s) (running_of s'))
    unfolding move_by
    number_in (Take i) m s' f' t e =
        let h = g.input_element i m.1.inside in
        let z = (f.block.idle m.0).element in
        numbers_right el (running_of s) s' (omega arith) f'
    number_in (Change j) m s' f' t e = numbers_right el (running_of s) s' (running_in (λ z. omega (arith, m.0))) f'
    number_in Idle m s' f' t e = numbers_right el (running_of s) s' (running_in (λ z. omega (arith, m.0))) f'
    number_in (Step j) m s' f' t e = numbers_right el (running_of s) s' (running_in m.acting.not_idle) f'
    number_in (End j) m s' f' t e = numbers_right el (running_of s) s' (running_in m.acting.not_idle) f'
    number_in Back m s' f' t e = numbers_right el (running_of s) s' (running_in m.0.not_idle) f'
    number_in Nothing m s' f' t e = rw e (numbers_none el (running_of s))

    -- ---- all frames of the move
    pub entries_right : (t : ℕ) → Formed T S (move_by T S t (next_of T S s) s) → Wide S (move_by T S t (next_of T S s) s) → AllRight (entries_of T S t s)
    unfolding entries_of entries_by entries_between first_entries next_of
    entries_right t f' w =
        let n = next_of T S s in
        let s' = move_by T S t n s in
        let m = next_means T S (running_of s) s in
        each_append (Right T S) (each_append (Right T S) (changes_right s s' f f' w) (events_right n m)) (number_in n m s' f' t refl)
