-- How many frames of each kind a shape has and where they start: the frame of an id.
use Rattle.std.specs.Prelude.{ℕ, ◌+◌, ◌-◌}
use Rattle.rules_tables.specs.declared.Shape.{Shape}

-- ---- frames: a shape has the frame after the last of each kind; the elements come first
abbrev pub elements : Shape → ℕ
elements S = S.elements_end

-- where the frames of each kind begin, and where the last end
abbrev pub first_input : Shape → ℕ
first_input S = S.elements_end

abbrev pub first_output : Shape → ℕ
first_output S = S.inputs_end

abbrev pub first_variable : Shape → ℕ
first_variable S = S.outputs_end

abbrev pub first_association : Shape → ℕ
first_association S = S.variables_end

abbrev pub first_state : Shape → ℕ
first_state S = S.associations_end

abbrev pub first_transition : Shape → ℕ
first_transition S = S.states_end

abbrev pub first_action : Shape → ℕ
first_action S = S.transitions_end

abbrev pub first_step : Shape → ℕ
first_step S = S.actions_end

abbrev pub first_connection : Shape → ℕ
first_connection S = S.steps_end

abbrev pub first_link : Shape → ℕ
first_link S = S.connections_end

abbrev pub table_end : Shape → ℕ
table_end S = S.links_end

-- how many there are
unfoldable pub inputs : Shape → ℕ
inputs S = first_output S - first_input S

unfoldable pub outputs : Shape → ℕ
outputs S = first_variable S - first_output S

unfoldable pub variables : Shape → ℕ
variables S = first_association S - first_variable S

unfoldable pub associations : Shape → ℕ
associations S = first_state S - first_association S

unfoldable pub states : Shape → ℕ
states S = first_transition S - first_state S

unfoldable pub transitions : Shape → ℕ
transitions S = first_action S - first_transition S

unfoldable pub actions : Shape → ℕ
actions S = first_step S - first_action S

unfoldable pub steps : Shape → ℕ
steps S = first_connection S - first_step S

unfoldable pub connections : Shape → ℕ
connections S = first_link S - first_connection S

unfoldable pub links : Shape → ℕ
links S = table_end S - first_link S

-- the frame of the i-th event input, and so for each kind; the i-th element's frame is i
abbrev pub input_frame : Shape → (i : ℕ) → ℕ
input_frame S i = first_input S + i

abbrev pub output_frame : Shape → (o : ℕ) → ℕ
output_frame S o = first_output S + o

abbrev pub variable_frame : Shape → (v : ℕ) → ℕ
variable_frame S v = first_variable S + v

abbrev pub association_frame : Shape → (a : ℕ) → ℕ
association_frame S a = first_association S + a

abbrev pub state_frame : Shape → (q : ℕ) → ℕ
state_frame S q = first_state S + q

abbrev pub transition_frame : Shape → (j : ℕ) → ℕ
transition_frame S j = first_transition S + j

abbrev pub action_frame : Shape → (j : ℕ) → ℕ
action_frame S j = first_action S + j

abbrev pub step_frame : Shape → (j : ℕ) → ℕ
step_frame S j = first_step S + j

abbrev pub connection_frame : Shape → (j : ℕ) → ℕ
connection_frame S j = first_connection S + j

abbrev pub link_frame : Shape → (j : ℕ) → ℕ
link_frame S j = first_link S + j
