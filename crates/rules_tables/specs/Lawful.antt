-- What the laws know of an accepted table, by ids, beside the bounds of `Good`.
use Rattle.std.specs.Prelude.{◌≡◌, List, ℕ, ◌<◌}
use Rattle.rules_walks.specs.First.{missing}
use Rattle.rules_tables.specs.Kind.{none, basic, delay}
use Rattle.rules_tables.specs.Frame.{flag_at, field_at}
use Rattle.rules_tables.specs.declared.Shape.{Shape}
use Rattle.rules_tables.specs.Ids.{elements, first_output, outputs, associations, states, transitions, actions, steps, links, output_frame, variable_frame, association_frame, state_frame, transition_frame, action_frame, step_frame, link_frame}
use Rattle.rules_tables.specs.Owned.{any, nth}
use Rattle.rules_tables.specs.Good.{Good}

-- the variables that data connection j runs between
abbrev pub source : List ℕ → Shape → ℕ → ℕ
source T S j = field_at T (link_frame S j) 0

abbrev pub destination : List ℕ → Shape → ℕ → ℕ
destination T S j = field_at T (link_frame S j) 1

-- state q is one of element el
pub record StateOf (T : List ℕ) (S : Shape) (q el : ℕ) : Type 0 where
  pub exists : q < states S
  pub own : field_at T (state_frame S q) 0 ≡ el

pub record Lawful (T : List ℕ) (S : Shape) : Type 0 where
  pub is_good : Good T S
  -- "A data connection runs from an output to an input variable." "On 0B: a destination already connected."
  pub destination_input : (j : ℕ) → j < links S → flag_at T (variable_frame S (destination T S j)) ≡ 0
  pub destinations : (j k : ℕ) → j < links S → k < links S → destination T S j ≡ destination T S k → j ≡ k
  -- a step's "result is not an input"
  pub result_other : (j : ℕ) → j < steps S → flag_at T (variable_frame S (field_at T (step_frame S j) 0)) ≡ 0 → ⊥
  -- "An association joins .. event output and output variable"
  pub given_other : (j : ℕ) → j < associations S → flag_at T (association_frame S j) ≡ 1 → flag_at T (variable_frame S (field_at T (association_frame S j) 1)) ≡ 0 → ⊥
  -- "A basic element's initial state is its own." "Both states .. of a transition are of one element."
  pub initial_own : (el : ℕ) → el < elements S → flag_at T el ≡ 0 → StateOf T S (field_at T el 1) el
  pub to_own : (j : ℕ) → j < transitions S → StateOf T S (field_at T (transition_frame S j) 1) (field_at T (state_frame S (field_at T (transition_frame S j) 0)) 0)
  -- "States belong to basic elements", and an action's "output event is too": so it is a basic element's
  pub action_basic : (j : ℕ) → j < actions S → (field_at T (action_frame S j) 3 ≡ none → ⊥) → flag_at T (field_at T (output_frame S (field_at T (action_frame S j) 3)) 0) ≡ basic
  -- "A delay has .. one event output"
  pub delay_output : (el : ℕ) → el < elements S → flag_at T el ≡ delay → nth T (first_output S) (outputs S) any el 0 ≡ missing → ⊥
