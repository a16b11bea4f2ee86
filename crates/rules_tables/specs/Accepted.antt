-- What an accepted table gives those who run it: one fact for each rule of document 01.
use Rattle.std.specs.Prelude.{◌≡◌, List, true, ℕ, ◌+◌, ◌*◌, ◌≤◌, ◌<◌, length}
use Rattle.rules_walks.specs.Count.{count_if}
use Rattle.rules_tables.specs.Kind.{element, event_input, event_output, variable, association, chart_state, transition, action, step, event_connection, data_connection, none, basic, interface, delay, source, sink, input, output, of_input, of_output}
use Rattle.rules_tables.specs.Frame.{kind_at, flag_at, field_at, frames_of}
use Rattle.rules_tables.specs.Place.{count_of, start_of, place, owner_of, flag_of, sorted_of}
use Rattle.rules_tables.specs.Places.{Found}
use Rattle.rules_tables.specs.Form.{form_of, used_of}
use Rattle.rules_tables.specs.Formed.{Formed}
use Rattle.rules_tables.specs.Fresh.{same_event}
use Rattle.rules_tables.specs.Shapes.{event_inputs, event_outputs, inputs, outputs, internals}

-- the frame of kind k with this id exists and is of element el
pub record Owned (T : List ℕ) (k id el : ℕ) : Type 0 where
  pub exists : id < count_of T k
  pub own : owner_of T k id ≡ el

-- there is an element el, and it is of this sort
pub record OfSort (T : List ℕ) (el sort : ℕ) : Type 0 where
  pub exists : el < count_of T element
  pub is : flag_of T element el ≡ sort

-- a variable of this role
pub record OfFlag (T : List ℕ) (v flag : ℕ) : Type 0 where
  pub exists : v < count_of T variable
  pub is : flag_of T variable v ≡ flag

-- ---- references, frame by frame

-- 05 at frame f joins an event of kind k and a variable of this role, of one element
pub record Association (T : List ℕ) (f k g : ℕ) : Type 0 where
  pub event : field_at T f 0 < count_of T k
  pub owned : Owned T variable (field_at T f 1) (owner_of T k (field_at T f 0))
  pub flag : flag_of T variable (field_at T f 1) ≡ g

-- 07: both states, the event and the variables are of element el
pub record Transition (T : List ℕ) (f el : ℕ) : Type 0 where
  pub from : Owned T chart_state (field_at T f 0) el
  pub to : Owned T chart_state (field_at T f 1) el
  pub event : (field_at T f 2 ≡ none → ⊥) → Owned T event_input (field_at T f 2) el
  pub left : (flag_at T f ≡ 0 → ⊥) → Owned T variable (field_at T f 3) el
  pub right : (flag_at T f ≡ 0 → ⊥) → Owned T variable (field_at T f 4) el

-- 08: the state, the steps' results and the output event are of element el
pub record Action (T : List ℕ) (f el : ℕ) : Type 0 where
  pub state : Owned T chart_state (field_at T f 0) el
  pub few : field_at T f 2 ≤ 64
  pub steps : (field_at T f 2 ≡ 0 → ⊥) → field_at T f 1 + field_at T f 2 ≤ count_of T step
  pub results : (i : ℕ) → i < field_at T f 2 → Owned T variable (owner_of T step (field_at T f 1 + i)) el
  pub event : (field_at T f 3 ≡ none → ⊥) → Owned T event_output (field_at T f 3) el

-- 09: the variables used are of element el, which is basic, and the result is not an input
pub record Step (T : List ℕ) (f el : ℕ) : Type 0 where
  pub basic : OfSort T el basic
  pub result : Owned T variable (field_at T f 0) el
  pub not_input : flag_of T variable (field_at T f 0) ≡ input → ⊥
  pub left : 1 < used_of step (flag_at T f) → Owned T variable (field_at T f 1) el
  pub right : 2 < used_of step (flag_at T f) → Owned T variable (field_at T f 2) el

-- 0A
pub record EventConnection (T : List ℕ) (f : ℕ) : Type 0 where
  pub output : field_at T f 0 < count_of T event_output
  pub input : field_at T f 1 < count_of T event_input

-- 0B
pub record DataConnection (T : List ℕ) (f : ℕ) : Type 0 where
  pub source : OfFlag T (field_at T f 0) output
  pub destination : OfFlag T (field_at T f 1) input

-- ---- the shapes of elements
pub record Source (T : List ℕ) (el : ℕ) : Type 0 where
  pub no_event_inputs : event_inputs T el ≡ 0
  pub no_inputs : inputs T el ≡ 0
  pub no_internals : internals T el ≡ 0

pub record Sink (T : List ℕ) (el : ℕ) : Type 0 where
  pub no_event_outputs : event_outputs T el ≡ 0
  pub no_outputs : outputs T el ≡ 0
  pub no_internals : internals T el ≡ 0

pub record Interface (T : List ℕ) (el : ℕ) : Type 0 where
  pub events : event_inputs T el ≡ event_outputs T el
  pub variables : inputs T el ≡ outputs T el
  pub no_internals : internals T el ≡ 0

pub record Delay (T : List ℕ) (el : ℕ) : Type 0 where
  pub start_stop : event_inputs T el ≡ 2
  pub output : event_outputs T el ≡ 1
  pub dt : inputs T el ≡ 1
  pub no_outputs : outputs T el ≡ 0
  pub no_internals : internals T el ≡ 0

-- ---- an accepted table
pub record Accepted (T : List ℕ) : Type 0 where
  -- 1
  pub size : length T ≡ 12 * frames_of T
  pub some : 0 < frames_of T
  pub most : frames_of T ≤ 4096
  -- 2
  pub form : (f : ℕ) → f < frames_of T → Formed T f
  pub sorted : sorted_of T ≡ true
  pub limit : (k : ℕ) → 1 ≤ k → k ≤ 11 → count_of T k ≤ (form_of k).most
  -- the id-th frame of kind k stands id after the first of its kind
  pub at : (k id : ℕ) → id < count_of T k → place T k id ≡ start_of T k + id
  pub found : (k id : ℕ) → id < count_of T k → Found T k id (frames_of T) (start_of T k + id)
  pub next : (k : ℕ) → start_of T (k + 1) ≡ start_of T k + count_of T k
  pub first : start_of T 1 ≡ 0
  pub total : start_of T 12 ≡ frames_of T
  -- 3
  pub initial_state : (f : ℕ) → f < frames_of T → kind_at T f ≡ element → flag_at T f ≡ basic → Owned T chart_state (field_at T f 1) f
  pub event_input_rule : (f : ℕ) → f < frames_of T → kind_at T f ≡ event_input → field_at T f 0 < count_of T element
  pub event_output_rule : (f : ℕ) → f < frames_of T → kind_at T f ≡ event_output → field_at T f 0 < count_of T element
  pub variable_of : (f : ℕ) → f < frames_of T → kind_at T f ≡ variable → field_at T f 0 < count_of T element
  pub input_association : (f : ℕ) → f < frames_of T → kind_at T f ≡ association → flag_at T f ≡ of_input → Association T f event_input input
  pub output_association : (f : ℕ) → f < frames_of T → kind_at T f ≡ association → flag_at T f ≡ of_output → Association T f event_output output
  pub not_interface : (f : ℕ) → f < frames_of T → kind_at T f ≡ association → flag_at T f ≡ of_output → OfSort T (owner_of T event_output (field_at T f 0)) interface → ⊥
  pub state_of : (f : ℕ) → f < frames_of T → kind_at T f ≡ chart_state → OfSort T (field_at T f 0) basic
  pub transition_of : (f : ℕ) → f < frames_of T → kind_at T f ≡ transition → Transition T f (owner_of T chart_state (field_at T f 0))
  pub action_of : (f : ℕ) → f < frames_of T → kind_at T f ≡ action → Action T f (owner_of T chart_state (field_at T f 0))
  pub step_of : (f : ℕ) → f < frames_of T → kind_at T f ≡ step → Step T f (owner_of T variable (field_at T f 0))
  pub event_connection_rule : (f : ℕ) → f < frames_of T → kind_at T f ≡ event_connection → EventConnection T f
  pub data_connection_rule : (f : ℕ) → f < frames_of T → kind_at T f ≡ data_connection → DataConnection T f
  -- 4
  pub priorities : (f g : ℕ) → f < frames_of T → g < frames_of T → kind_at T f ≡ element → kind_at T g ≡ element → field_at T f 0 ≡ field_at T g 0 → f ≡ g
  pub local_priorities : (f g : ℕ) → f < frames_of T → g < frames_of T → kind_at T f ≡ event_input → kind_at T g ≡ event_input
      → field_at T f 0 ≡ field_at T g 0 → flag_at T f ≡ flag_at T g → f ≡ g
  pub association_pairs : (f g : ℕ) → f < frames_of T → g < frames_of T → kind_at T f ≡ association → kind_at T g ≡ association
      → flag_at T f ≡ flag_at T g → field_at T f 0 ≡ field_at T g 0 → field_at T f 1 ≡ field_at T g 1 → f ≡ g
  pub connection_pairs : (f g : ℕ) → f < frames_of T → g < frames_of T → kind_at T f ≡ event_connection → kind_at T g ≡ event_connection
      → field_at T f 0 ≡ field_at T g 0 → field_at T f 1 ≡ field_at T g 1 → f ≡ g
  pub destinations : (f g : ℕ) → f < frames_of T → g < frames_of T → kind_at T f ≡ data_connection → kind_at T g ≡ data_connection
      → field_at T f 1 ≡ field_at T g 1 → f ≡ g
  pub eight : (f : ℕ) → f < frames_of T → kind_at T f ≡ association → count_if (same_event T f) (frames_of T) ≤ 8
  pub interface : (el : ℕ) → OfSort T el interface → Interface T el
  pub delay : (el : ℕ) → OfSort T el delay → Delay T el
  pub source : (el : ℕ) → OfSort T el source → Source T el
  pub sink : (el : ℕ) → OfSort T el sink → Sink T el
