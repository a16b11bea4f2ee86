-- "Kinds 0 to 10: chart state, internal, input, output value, block started, finished, event selected, event emitted, transition enabled, action number,
-- step number."
use Rattle.std.specs.Prelude.{ℕ}

abbrev pub chart_kind : ℕ
chart_kind = 0

abbrev pub internal_kind : ℕ
internal_kind = 1

abbrev pub input_kind : ℕ
input_kind = 2

abbrev pub output_kind : ℕ
output_kind = 3

abbrev pub started_kind : ℕ
started_kind = 4

abbrev pub finished_kind : ℕ
finished_kind = 5

abbrev pub selected_kind : ℕ
selected_kind = 6

abbrev pub emitted_kind : ℕ
emitted_kind = 7

abbrev pub enabled_kind : ℕ
enabled_kind = 8

abbrev pub action_kind : ℕ
action_kind = 9

abbrev pub step_kind : ℕ
step_kind = 10
