-- The kinds of frames and their flags, by document 01's table.
use Rattle.std.specs.Prelude.{ℕ}

abbrev pub element : ℕ
element = 1

abbrev pub event_input : ℕ
event_input = 2

abbrev pub event_output : ℕ
event_output = 3

abbrev pub variable : ℕ
variable = 4

abbrev pub association : ℕ
association = 5

abbrev pub chart_state : ℕ
chart_state = 6

abbrev pub transition : ℕ
transition = 7

abbrev pub action : ℕ
action = 8

abbrev pub step : ℕ
step = 9

abbrev pub event_connection : ℕ
event_connection = 10

abbrev pub data_connection : ℕ
data_connection = 11

-- FFFF means none, where it may
abbrev pub none : ℕ
none = 65535

-- the sorts of elements, the flag of kind 01: "0 basic, 1 interface, 2 delay, 3 source, 4 sink"
abbrev pub basic : ℕ
basic = 0

abbrev pub interface : ℕ
interface = 1

abbrev pub delay : ℕ
delay = 2

abbrev pub source : ℕ
source = 3

abbrev pub sink : ℕ
sink = 4

-- the roles of variables, the flag of kind 04: "0 input, 1 output, 2 internal"
abbrev pub input : ℕ
input = 0

abbrev pub output : ℕ
output = 1

abbrev pub internal : ℕ
internal = 2

-- which events an association is of, the flag of kind 05: "0 input, 1 output"
abbrev pub of_input : ℕ
of_input = 0

abbrev pub of_output : ℕ
of_output = 1
