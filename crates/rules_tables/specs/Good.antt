-- What those who run a table know of it and of its shape: an accepted table's facts as plain bounds, by the ids of each kind.
use Rattle.std.specs.Prelude.{◌≡◌, ℕ, ◌+◌, ◌≤◌, ◌<◌, Bool, eqb}
use Rattle.rules_walks.specs.Pick.{both}
use Rattle.rules_walks.specs.Count.{count_if}
use Rattle.rules_tables.specs.Kind.{none, input, of_input}
use Rattle.rules_tables.specs.Frame.{Table, frames_of, flag_at, field_at}
use Rattle.rules_tables.specs.declared.Shape.{Shape}
use Rattle.rules_tables.specs.Ids.{elements, first_input, first_output, first_variable, first_association, first_state, first_transition, first_action, first_step, first_connection, first_link, table_end, inputs, outputs, variables, associations, states, transitions, actions, steps, connections, links, input_frame, output_frame, variable_frame, association_frame, action_frame, step_frame, connection_frame, link_frame}

-- association j has this flag and this event
abbrev pub of_event : Table → Shape → (flag event j : ℕ) → Bool
of_event T S flag event j = both (eqb (flag_at T (association_frame S j)) flag) (eqb (field_at T (association_frame S j) 0) event)

pub record Good (T : Table) (S : Shape) : Type 0 where
  -- how many there are
  pub few : frames_of T ≤ 4096
  pub few_elements : elements S ≤ 64
  pub few_inputs : inputs S ≤ 256
  pub few_outputs : outputs S ≤ 256
  pub few_variables : variables S ≤ 512
  -- where the frames of each kind end
  pub to_inputs : first_input S + inputs S ≡ first_output S
  pub to_outputs : first_output S + outputs S ≡ first_variable S
  pub to_variables : first_variable S + variables S ≡ first_association S
  pub to_associations : first_association S + associations S ≡ first_state S
  pub to_states : first_state S + states S ≡ first_transition S
  pub to_transitions : first_transition S + transitions S ≡ first_action S
  pub to_actions : first_action S + actions S ≡ first_step S
  pub to_steps : first_step S + steps S ≡ first_connection S
  pub to_connections : first_connection S + connections S ≡ first_link S
  pub to_links : first_link S + links S ≡ table_end S
  pub to_end : table_end S ≤ frames_of T
  -- references, by id
  pub input_element : (i : ℕ) → i < inputs S → field_at T (input_frame S i) 0 < elements S
  pub output_element : (o : ℕ) → o < outputs S → field_at T (output_frame S o) 0 < elements S
  pub variable_element : (v : ℕ) → v < variables S → field_at T (variable_frame S v) 0 < elements S
  pub association_variable : (a : ℕ) → a < associations S → field_at T (association_frame S a) 1 < variables S
  -- an event's associations: its input associations join input variables, none joins a variable twice, and there are eight at most
  pub association_input : (a : ℕ) → a < associations S → flag_at T (association_frame S a) ≡ of_input → flag_at T (variable_frame S (field_at T (association_frame S a) 1)) ≡ input
  pub association_once : (a b : ℕ) → a < associations S → b < associations S → flag_at T (association_frame S a) ≡ flag_at T (association_frame S b)
      → field_at T (association_frame S a) 0 ≡ field_at T (association_frame S b) 0 → field_at T (association_frame S a) 1 ≡ field_at T (association_frame S b) 1 → a ≡ b
  pub eight : (flag event : ℕ) → count_if (of_event T S flag event) (associations S) ≤ 8
  pub action_steps : (j k : ℕ) → j < actions S → k < field_at T (action_frame S j) 2 → field_at T (action_frame S j) 1 + k < steps S
  pub action_event : (j : ℕ) → j < actions S → (field_at T (action_frame S j) 3 ≡ none → ⊥) → field_at T (action_frame S j) 3 < outputs S
  pub step_result : (j : ℕ) → j < steps S → field_at T (step_frame S j) 0 < variables S
  pub connection_input : (j : ℕ) → j < connections S → field_at T (connection_frame S j) 1 < inputs S
  pub link_source : (j : ℕ) → j < links S → field_at T (link_frame S j) 0 < variables S
  pub link_destination : (j : ℕ) → j < links S → field_at T (link_frame S j) 1 < variables S
