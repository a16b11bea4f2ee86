-- Which frames the reader takes: those of each kind that name what the table has.
use Rattle.std.specs.Prelude.{◌≡◌, refl, ℕ, ◌≤◌, ◌<◌}
use native.Mathlib.Omega.{arith}
use borrow.Author.Tests.{lt-ltb, eq-eqb}
use Rattle.rules_tables.specs.Frame.{Table, flag_at, field_at}
use Rattle.rules_tables.specs.declared.Shape.{Shape}
use Rattle.rules_tables.specs.Ids.{elements, inputs, outputs, variables, states, transitions, actions, variable_frame, state_frame, transition_frame}
use Rattle.rules_tables.specs.Good.{Good}
use Rattle.rules_tables.specs.Lawful.{StateOf}
use Rattle.rules_moves.specs.Partner.{input_owner, output_owner, variable_owner}
use Rattle.rules_traces.specs.Kinds.{chart_kind, started_kind, finished_kind, selected_kind, emitted_kind, enabled_kind, action_kind, step_kind}
use Rattle.rules_traces.specs.Entry.{entry}
use Rattle.rules_traces.specs.Reader.{nameless, happened, of_chart, of_variable, of_event_input, of_event_output, of_transition, right_kind, known_entry}
use Rattle.laws_traces.specs.Fits.{Right}

module _ (T : Table) (S : Shape) (g : Good T S) where
  -- ---- how many there are: every id fits a half
  table_ends : (states S ≤ 4096) × (transitions S ≤ 4096) × (actions S ≤ 4096)
  table_ends =
      let a = g.few in
      let b = g.to_states in
      let c = g.to_transitions in
      let d = g.to_actions in
      let e = g.to_steps in
      let f = g.to_connections in
      let h = g.to_links in
      let i = g.to_end in (omega arith, omega arith, omega arith)

  pub few_actions : actions S ≤ 4096
  few_actions = table_ends.2

  -- ---- 0
  pub right_chart : (el q : ℕ) → el < elements S → StateOf T S q el → Right T S (entry chart_kind el 0 q)
  unfolding known_entry right_kind nameless of_chart
  right_chart el q l w =
      let a = g.few_elements in
      let b = table_ends.0 in
      let c = w.exists in
      record {
        fits = record { kind = omega arith; block = omega arith; id = omega arith; value = omega arith };
        known = rw (lt-ltb el (elements S) l, lt-ltb q (states S) c, eq-eqb (field_at T (state_frame S q) 0) el w.own);
      }

  -- ---- 1 to 3, where the kind asks for a variable of this role
  pub right_value : (role kind v x : ℕ) → kind < 256 → ((b i n : ℕ) → right_kind T S (entry kind b i n) ≡ of_variable T S role (entry kind b i n))
      → v < variables S → flag_at T (variable_frame S v) ≡ role → x < 4294967296 → Right T S (entry kind (variable_owner T S v) v x)
  unfolding known_entry of_variable
  right_value role kind v x few is l e h =
      let el = variable_owner T S v in
      let a = g.few_elements in
      let b = g.few_variables in
      let c = g.variable_element v l in
      record {
        fits = record { kind = few; block = omega arith; id = omega arith; value = h };
        known =
            rw (lt-ltb el (elements S) c, is el v x, lt-ltb v (variables S) l, eq-eqb el el refl) (eq-eqb (flag_at T (variable_frame S v)) role e);
      }

  -- ---- 4, 5
  pub right_started : (el : ℕ) → el < elements S → Right T S (entry started_kind el 0 1)
  unfolding known_entry right_kind nameless happened
  right_started el l =
      let a = g.few_elements in
      record { fits = record { kind = omega arith; block = omega arith; id = omega arith; value = omega arith }; known = rw (lt-ltb el (elements S) l) }

  pub right_finished : (el : ℕ) → el < elements S → Right T S (entry finished_kind el 0 1)
  unfolding known_entry right_kind nameless happened
  right_finished el l =
      let a = g.few_elements in
      record { fits = record { kind = omega arith; block = omega arith; id = omega arith; value = omega arith }; known = rw (lt-ltb el (elements S) l) }

  -- ---- 6 to 8
  pub right_selected : (i : ℕ) → i < inputs S → Right T S (entry selected_kind (input_owner T S i) i 1)
  unfolding known_entry right_kind happened of_event_input
  right_selected i l =
      let el = input_owner T S i in
      let a = g.few_elements in
      let b = g.few_inputs in
      let c = g.input_element i l in
      record {
        fits = record { kind = omega arith; block = omega arith; id = omega arith; value = omega arith };
        known = rw (lt-ltb el (elements S) c, lt-ltb i (inputs S) l, eq-eqb el el refl);
      }

  pub right_emitted : (o : ℕ) → o < outputs S → Right T S (entry emitted_kind (output_owner T S o) o 1)
  unfolding known_entry right_kind happened of_event_output
  right_emitted o l =
      let el = output_owner T S o in
      let a = g.few_elements in
      let b = g.few_outputs in
      let c = g.output_element o l in
      record {
        fits = record { kind = omega arith; block = omega arith; id = omega arith; value = omega arith };
        known = rw (lt-ltb el (elements S) c, lt-ltb o (outputs S) l, eq-eqb el el refl);
      }

  pub right_enabled : (el j : ℕ) → el < elements S → j < transitions S → field_at T (state_frame S (field_at T (transition_frame S j) 0)) 0 ≡ el → Right T S (entry enabled_kind el j 1)
  unfolding known_entry right_kind happened of_transition
  right_enabled el j l h e =
      let a = g.few_elements in
      let b = table_ends.1 in
      record {
        fits = record { kind = omega arith; block = omega arith; id = omega arith; value = omega arith };
        known = rw (lt-ltb el (elements S) l, lt-ltb j (transitions S) h, eq-eqb (field_at T (state_frame S (field_at T (transition_frame S j) 0)) 0) el e);
      }

  -- ---- 9, 10
  pub right_action : (el n : ℕ) → el < elements S → n < 4294967296 → Right T S (entry action_kind el 0 n)
  unfolding known_entry right_kind nameless
  right_action el n l h =
      let a = g.few_elements in
      record { fits = record { kind = omega arith; block = omega arith; id = omega arith; value = h }; known = rw (lt-ltb el (elements S) l) }

  pub right_step : (el n : ℕ) → el < elements S → n < 4294967296 → Right T S (entry step_kind el 0 n)
  unfolding known_entry right_kind nameless
  right_step el n l h =
      let a = g.few_elements in
      record { fits = record { kind = omega arith; block = omega arith; id = omega arith; value = h }; known = rw (lt-ltb el (elements S) l) }
