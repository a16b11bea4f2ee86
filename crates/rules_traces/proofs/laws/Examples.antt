-- Computed examples: what no law says of the rules of the trace, so that code and definition cannot change it together.
use Rattle.std.specs.Prelude.{ℕ, ◌≡◌, refl, true, false, List, [], ◌∷◌, ◌++◌, map, take, set, replicate}
use Rattle.rules_walks.specs.Choose.{choose}
use Rattle.rules_walks.specs.Walk.{up_to}
use Rattle.rules_walks.specs.All.{all_to}
use Rattle.rules_walks.specs.Count.{count_if}
use Rattle.rules_walks.specs.First.{first_from}
use Rattle.rules_walks.specs.Held.{held_to}
use Rattle.rules_numbers.specs.Bytes.{half_at, half_bytes, word_bytes}
use Rattle.rules_tables.specs.Frame.{Table, kind_at, flag_at, field_at}
use Rattle.rules_tables.specs.declared.Shape.{Shape}
use Rattle.rules_tables.specs.Ids.{inputs, outputs, variables, associations, states, transitions, connections, links}
use Rattle.rules_tables.specs.Owned.{belongs, is_nth}
use Rattle.rules_store.specs.Layout.{element_at, input_at, variable_at}
use Rattle.rules_store.specs.Word.{Store, now_of, put_owner, running_of, put_running, chart_state, put_chart_state, waiting, birth_of, last_update, put_input, value, put_value}
use Rattle.rules_store.specs.Due.{put_due}
use Rattle.rules_moves.specs.Partner.{partner_output}
use Rattle.rules_moves.specs.Carry.{speaks}
use Rattle.rules_moves.specs.Least.{beats, better, look, least}
use Rattle.rules_moves.specs.Take.{sample, fire_found, sampled, settle, settled, fired_by, taken}
use Rattle.rules_moves.specs.Record.{head, value_of, values, record_of, record_size, put_out}
use Rattle.rules_moves.specs.Next.{event_next, next_by, next_of, move_by, move, written_by, written, size_by}
use Rattle.rules_calls.specs.Run.{after, bytes, another as «another_move», room_for, continues}
use Rattle.rules_sessions.specs.Line.{is_digit, digit_value, all_digits, byte_of, bytes_to}
use Rattle.rules_sessions.specs.Text.{glyph, pair, digits, line_of}
use Rattle.rules_sessions.specs.Command.{long_at}
use Rattle.rules_traces.specs.Entry.{entry, entry_frame, entry_frames, entry_lines}
use Rattle.rules_traces.specs.Gather.{gather}
use Rattle.rules_traces.specs.Trace.{differing, chart_entry, value_entry, changes, number_changes, finished_at_once, emitted_entry, events, first_entries, entries_between, entries_by, entries_of}
use Rattle.rules_traces.specs.Run.{trace, trace_room_for, traced_continues, traced_made, traced_stop}
use Rattle.rules_traces.specs.Reader.{line_at, another_line, ended_at, whole_line, entry_in, right_frame, nameless, happened, of_chart, of_variable, of_event_input, of_event_output, of_transition, right_kind, known_entry, entry_at, readable, shown_of, ended_by, show_entry, shown_after}

-- ---- "84; flag the kind; a block; b id ..; c, d new value ..; e zero"
pub entry_frame_lem : entry_frame (entry 3 258 772 84281096) ≡ 132 ∷ 3 ∷ 1 ∷ 2 ∷ 3 ∷ 4 ∷ 5 ∷ 6 ∷ 7 ∷ 8 ∷ 0 ∷ 0 ∷ []
unfolding entry_frame word_bytes half_bytes
entry_frame_lem = refl

-- ---- "only where the value differs from before"
pub the_same : differing 7 (entry 2 0 0 7) ≡ []
unfolding differing choose
the_same = refl

pub another : differing 7 (entry 2 0 0 8) ≡ entry 2 0 0 8 ∷ []
unfolding differing choose
another = refl

-- ---- the reader: a table of two basic elements in which no two things of one kind with the same id are of the same block by chance
abbrev row : (kind flag a b c : ℕ) → List ℕ
row kind flag a b c = kind ∷ flag ∷ 0 ∷ a ∷ 0 ∷ b ∷ 0 ∷ c ∷ 0 ∷ 0 ∷ 0 ∷ 0 ∷ []

abbrev table : Table
table =
    row 1 0 0 1 0 ++ row 1 0 1 0 0 ++ row 2 0 0 0 0 ++ row 2 1 1 0 0 ++ row 3 0 1 0 0 ++ row 3 0 0 0 0
    ++ row 4 0 0 0 0 ++ row 4 1 0 0 0 ++ row 4 2 0 0 0 ++ row 4 0 1 0 0 ++ row 5 0 1 3 0 ++ row 5 0 0 0 0
    ++ row 6 0 1 0 0 ++ row 6 0 0 0 0 ++ row 6 0 0 0 0 ++ row 7 0 1 2 0 ++ row 7 0 0 0 1

abbrev shape : Shape
shape =
    record {
      elements_end = 2;
      inputs_end = 4;
      outputs_end = 6;
      variables_end = 10;
      associations_end = 12;
      states_end = 15;
      transitions_end = 17;
      actions_end = 17;
      steps_end = 17;
      connections_end = 17;
      links_end = 17;
    }

reader : Unit {0}
unfolding half_at kind_at flag_at field_at inputs outputs variables states transitions long_at entry_in right_frame nameless happened of_chart of_variable of_event_input of_event_output of_transition right_kind known_entry line_at another_line ended_at whole_line entry_at readable shown_of ended_by show_entry shown_after element_at variable_at put_chart_state put_value all_digits is_digit digit_value byte_of bytes_to all_to held_to up_to choose line_of digits pair glyph entry_frame entry_lines word_bytes half_bytes
reader = tt

-- a frame says what it was made of
pub entry_back : entry_in (entry_frame (entry 3 258 772 84281096)) ≡ entry 3 258 772 84281096
unfolding reader
entry_back = refl

-- "84 ..; e zero": another first byte, and another e in either byte, are of a wrong form
pub right_frames :
    map right_frame
    ((132 ∷ 3 ∷ 1 ∷ 2 ∷ 3 ∷ 4 ∷ 5 ∷ 6 ∷ 7 ∷ 8 ∷ 0 ∷ 0 ∷ []) ∷ (131 ∷ 3 ∷ 1 ∷ 2 ∷ 3 ∷ 4 ∷ 5 ∷ 6 ∷ 7 ∷ 8 ∷ 0 ∷ 0 ∷ [])
    ∷ (132 ∷ 3 ∷ 1 ∷ 2 ∷ 3 ∷ 4 ∷ 5 ∷ 6 ∷ 7 ∷ 8 ∷ 0 ∷ 1 ∷ []) ∷ (132 ∷ 3 ∷ 1 ∷ 2 ∷ 3 ∷ 4 ∷ 5 ∷ 6 ∷ 7 ∷ 8 ∷ 1 ∷ 0 ∷ []) ∷ [])
    ≡ true ∷ false ∷ false ∷ false ∷ []
unfolding reader
right_frames = refl

-- chart state: two of the block; then one of the other block, none, and an id where none is named
pub chart_states : map (right_kind table shape) (entry 0 0 0 1 ∷ entry 0 0 0 2 ∷ entry 0 0 0 0 ∷ entry 0 0 0 3 ∷ entry 0 0 1 1 ∷ []) ≡ true ∷ true ∷ false ∷ false ∷ false ∷ []
unfolding reader
chart_states = refl

-- internal, input and output value: the variable in its role; then in the other two, of the other block, and none
pub internal_values : map (right_kind table shape) (entry 1 0 2 7 ∷ entry 1 0 0 7 ∷ entry 1 0 1 7 ∷ entry 1 1 2 7 ∷ entry 1 0 4 7 ∷ []) ≡ true ∷ false ∷ false ∷ false ∷ false ∷ []
unfolding reader
internal_values = refl

pub input_values : map (right_kind table shape) (entry 2 0 0 7 ∷ entry 2 0 1 7 ∷ entry 2 0 2 7 ∷ entry 2 0 3 7 ∷ entry 2 0 4 7 ∷ []) ≡ true ∷ false ∷ false ∷ false ∷ false ∷ []
unfolding reader
input_values = refl

pub output_values : map (right_kind table shape) (entry 3 0 1 7 ∷ entry 3 0 0 7 ∷ entry 3 0 2 7 ∷ entry 3 1 1 7 ∷ entry 3 0 4 7 ∷ []) ≡ true ∷ false ∷ false ∷ false ∷ false ∷ []
unfolding reader
output_values = refl

-- block started, finished: with an id, and with another value than 1, refused
pub started : map (right_kind table shape) (entry 4 0 0 1 ∷ entry 4 0 1 1 ∷ entry 4 0 0 0 ∷ entry 4 0 0 2 ∷ []) ≡ true ∷ false ∷ false ∷ false ∷ []
unfolding reader
started = refl

pub finished : map (right_kind table shape) (entry 5 0 0 1 ∷ entry 5 0 1 1 ∷ entry 5 0 0 0 ∷ entry 5 0 0 2 ∷ []) ≡ true ∷ false ∷ false ∷ false ∷ []
unfolding reader
finished = refl

-- event selected, event emitted, transition enabled: one of the block; then of the other block, none, and another value than 1
pub selected : map (right_kind table shape) (entry 6 0 0 1 ∷ entry 6 1 0 1 ∷ entry 6 0 2 1 ∷ entry 6 0 0 0 ∷ []) ≡ true ∷ false ∷ false ∷ false ∷ []
unfolding reader
selected = refl

pub emitted : map (right_kind table shape) (entry 7 1 0 1 ∷ entry 7 0 0 1 ∷ entry 7 0 2 1 ∷ entry 7 1 0 0 ∷ []) ≡ true ∷ false ∷ false ∷ false ∷ []
unfolding reader
emitted = refl

pub enabled : map (right_kind table shape) (entry 8 0 0 1 ∷ entry 8 1 0 1 ∷ entry 8 0 2 1 ∷ entry 8 0 0 0 ∷ []) ≡ true ∷ false ∷ false ∷ false ∷ []
unfolding reader
enabled = refl

-- action number, step number: any value and no id; there is no kind 11
pub numbers : map (right_kind table shape) (entry 9 0 0 70000 ∷ entry 9 0 1 0 ∷ entry 10 0 0 70000 ∷ entry 10 0 1 0 ∷ entry 11 0 0 1 ∷ []) ≡ true ∷ false ∷ true ∷ false ∷ false ∷ []
unfolding reader
numbers = refl

-- an unknown block
pub blocks : map (known_entry table shape) (entry 9 0 0 0 ∷ entry 9 1 0 0 ∷ entry 9 2 0 0 ∷ []) ≡ true ∷ true ∷ false ∷ []
unfolding reader
blocks = refl

-- ---- the frames of a change: each kind by id, though the associations stand the other way round; buffers and due times have none
moved : Unit {0}
unfolding half_at flag_at field_at inputs variables associations element_at variable_at chart_state value choose gather differing chart_entry value_entry changes
moved = tt

pub changed :
    changes table shape (replicate 36 0) (set (set (set (set (set (set (set (replicate 36 0) 16 2) 17 1) 28 9) 29 9) 30 8) 32 7) 34 6)
    ≡ entry 0 0 0 2 ∷ entry 1 0 2 7 ∷ entry 2 0 0 9 ∷ entry 2 1 3 6 ∷ entry 3 0 1 8 ∷ []
unfolding moved
changed = refl

-- ---- a traced run over a sink whose event waits: a record of 16 bytes and three frames of 12
abbrev sink_table : Table
sink_table = row 1 4 0 0 0 ++ row 2 0 0 0 0

abbrev sink_shape : Shape
sink_shape =
    record {
      elements_end = 1;
      inputs_end = 2;
      outputs_end = 2;
      variables_end = 2;
      associations_end = 2;
      states_end = 2;
      transitions_end = 2;
      actions_end = 2;
      steps_end = 2;
      connections_end = 2;
      links_end = 2;
    }

abbrev waits : Store
waits = set (replicate 22 0) 19 1

run : Unit {0}
unfolding moved count_if up_to first_from held_to word_bytes half_bytes associations outputs connections links input_at now_of put_owner running_of put_running put_due waiting birth_of last_update put_input belongs is_nth partner_output speaks beats better look least sample fire_found sampled settle settled fired_by taken head value_of values record_of record_size put_out event_next next_by next_of move_by move written_by written size_by after bytes «another_move» room_for continues entry_frame entry_frames number_changes finished_at_once emitted_entry events first_entries entries_between entries_by entries_of trace trace_room_for traced_continues traced_made traced_stop
run = tt

-- "no trace room, looked at after 3 and before 2": neither has room; the record has; both have; no move is left
pub stops : map (λ (space : ℕ). traced_stop sink_table sink_shape 0 15 space waits 0) (35 ∷ 36 ∷ []) ≡ 3 ∷ 3 ∷ []
unfolding run
stops = refl

pub stops_with_room : map (λ (space : ℕ). traced_stop sink_table sink_shape 0 16 space waits 0) (35 ∷ 36 ∷ []) ≡ 4 ∷ 2 ∷ []
unfolding run
stops_with_room = refl

pub stops_after_it : traced_stop sink_table sink_shape 0 0 0 waits 1 ≡ 1
unfolding run
stops_after_it = refl

-- "a move is traced whole or not made"
pub traced_whole : map (λ (space : ℕ). traced_made sink_table sink_shape 0 9 16 space waits) (0 ∷ 35 ∷ 36 ∷ []) ≡ 0 ∷ 0 ∷ 1 ∷ []
unfolding run
traced_whole = refl

-- ---- lines
abbrev three : List ℕ
three = entry_lines (entry 6 0 0 1 ∷ entry 2 0 0 9 ∷ entry 0 0 0 2 ∷ [])

-- the last line perhaps not ended by 0A; a carriage return, a small letter, a digit less and one more, and an empty line are of a wrong form
pub whole_lines :
    map (λ (text : List ℕ). whole_line text 0) (three ∷ take 24 three ∷ set three 24 13 ∷ set three 1 97 ∷ take 23 three ∷ (48 ∷ three) ∷ (10 ∷ three) ∷ [])
    ≡ true ∷ true ∷ false ∷ false ∷ false ∷ false ∷ false ∷ []
unfolding reader
whole_lines = refl

-- no frames, some, all, and more than there are; no line ends the reading
pub shown_frames : map (shown_of table shape three) (0 ∷ 1 ∷ 2 ∷ 3 ∷ 4 ∷ []) ≡ 0 ∷ 1 ∷ 2 ∷ 3 ∷ 3 ∷ []
unfolding reader
shown_frames = refl

pub no_line_ends : ended_by three 3 3 ≡ 0
unfolding reader
no_line_ends = refl

pub none_is_left : ended_by three 4 3 ≡ 0
unfolding reader
none_is_left = refl

-- line 2 says a chart state of the other block: it ends the reading, unless it was not asked for
abbrev broken : List ℕ
broken = entry_lines (entry 6 0 0 1 ∷ entry 0 0 0 0 ∷ entry 0 0 0 2 ∷ [])

pub broken_frames : map (shown_of table shape broken) (0 ∷ 1 ∷ 2 ∷ 3 ∷ []) ≡ 0 ∷ 1 ∷ 1 ∷ 1 ∷ []
unfolding reader
broken_frames = refl

pub line_two_ends : ended_by broken 3 1 ≡ 2
unfolding reader
line_two_ends = refl

pub not_asked_for : ended_by broken 1 1 ≡ 0
unfolding reader
not_asked_for = refl

-- ---- what is shown after each frame: after the second the value, after the third the chart state too
abbrev store : Store
store = replicate 36 0

pub shown_at_first : shown_after shape three 0 store ≡ store
unfolding reader
shown_at_first = refl

pub shown_after_one : shown_after shape three 1 store ≡ store
unfolding reader
shown_after_one = refl

pub shown_after_two : shown_after shape three 2 store ≡ set store 28 9
unfolding reader
shown_after_two = refl

pub shown_after_three : shown_after shape three 3 store ≡ set (set store 28 9) 16 2
unfolding reader
shown_after_three = refl
