-- The trace of the worked session, of a transition to its own state and of an interface, and what the reader shows of it, computed.
use Rattle.std.specs.Prelude.{◌≡◌, refl, [], ◌∷◌, map, length, take, drop, ℕ}
use Rattle.rules_tables.specs.Judge.{accepted, judge, shape_of}
use Rattle.rules_store.specs.Word.{now_of}
use Rattle.rules_sessions.specs.Line.{is_digit, digit_value, all_digits, byte_of, bytes_to}
use Rattle.rules_sessions.specs.Text.{glyph, pair, digits, line_of}
use Rattle.rules_sessions.specs.Command.{long_at}
use Rattle.rules_traces.specs.Entry.{entry, entry_frame, entry_frames, entry_lines}
use Rattle.rules_traces.specs.Gather.{gather}
use Rattle.rules_traces.specs.Trace.{differing, chart_entry, value_entry, changes, number_changes, finished_at_once, emitted_entry, events, first_entries, entries_between, entries_by, entries_of}
use Rattle.rules_traces.specs.Run.{entries_after, trace, trace_room_for, traced_continues, traced_made, traced_stop}
use Rattle.rules_traces.specs.Reader.{line_at, another_line, ended_at, whole_line, entry_in, right_frame, nameless, happened, of_chart, of_variable, of_event_input, of_event_output, of_transition, right_kind, known_entry, entry_at, readable, shown_of, ended_by, show_entry, shown_after}
use Rattle.cases_tables.specs.Worked.{small}
use Rattle.cases.specs.Claim.{everything}
use Rattle.cases.specs.Traced.{entries_at, doubler, ready, frames, frame_bytes, seventh, text, damaged, shown_words, asked, tells, own, woken, passing, interface, given}

-- every definition on the way, beside those of the machine
traces_too : Unit {0}
unfolding everything small passing is_digit digit_value all_digits byte_of bytes_to glyph pair digits line_of long_at entry_frame entry_frames entry_lines gather differing chart_entry value_entry changes number_changes finished_at_once emitted_entry events first_entries entries_between entries_by entries_of entries_after trace trace_room_for traced_continues traced_made traced_stop line_at another_line ended_at whole_line entry_in right_frame nameless happened of_chart of_variable of_event_input of_event_output of_transition right_kind known_entry entry_at readable shown_of ended_by show_entry shown_after
traces_too = tt

-- ---- the worked session
-- its nine moves have 3, 3, 2, 3, 0, 2, 0, 1 and 4 frames
pub frames_of_moves :
    map (λ (n : ℕ). length (entries_at doubler ready n)) (0 ∷ 1 ∷ 2 ∷ 3 ∷ 4 ∷ 5 ∷ 6 ∷ 7 ∷ 8 ∷ [])
    ≡ 3 ∷ 3 ∷ 2 ∷ 3 ∷ 0 ∷ 2 ∷ 0 ∷ 1 ∷ 4 ∷ []
unfolding traces_too
frames_of_moves = refl

-- they are these
pub session_traced : entries_after doubler (shape_of doubler) (now_of ready) 9 ready ≡ frames
unfolding traces_too
session_traced = refl

pub session_bytes : trace doubler (shape_of doubler) (now_of ready) 9 ready ≡ frame_bytes
unfolding traces_too
session_bytes = refl

pub seventh_line : take 25 (drop 150 text) ≡ seventh
unfolding traces_too
seventh_line = refl

-- ---- why a traced run stops: moves, stop number, bytes of the trace, by budget, room for output and space for the trace
-- all there is room for; 216 bytes suffice
pub all_traced : map tells (asked 100 4096 4096 ∷ asked 9 20 216 ∷ []) ≡ (9 ∷ 1 ∷ 216 ∷ []) ∷ (9 ∷ 1 ∷ 216 ∷ []) ∷ []
unfolding traces_too
all_traced = refl

-- 35 bytes stop with 4 before the first move, 36 let it be made
pub first_move : map tells (asked 100 4096 35 ∷ asked 100 4096 36 ∷ []) ≡ (0 ∷ 4 ∷ 0 ∷ []) ∷ (1 ∷ 4 ∷ 36 ∷ []) ∷ []
unfolding traces_too
first_move = refl

-- the fifth move has no frame: it is made with no space left
pub no_frame : tells (asked 100 4096 132) ≡ 5 ∷ 4 ∷ 132 ∷ []
unfolding traces_too
no_frame = refl

-- before the last move: a record without room, with and without space for the trace (3); a record with room and no space (4)
pub last_move :
    map tells (asked 100 19 216 ∷ asked 100 19 168 ∷ asked 100 20 168 ∷ asked 100 20 215 ∷ [])
    ≡ (8 ∷ 3 ∷ 168 ∷ []) ∷ (8 ∷ 3 ∷ 168 ∷ []) ∷ (8 ∷ 4 ∷ 168 ∷ []) ∷ (8 ∷ 4 ∷ 168 ∷ []) ∷ []
unfolding traces_too
last_move = refl

-- the budget is looked at last
pub budget_last :
    map tells (asked 0 4096 0 ∷ asked 0 4096 36 ∷ asked 8 20 168 ∷ asked 8 20 216 ∷ [])
    ≡ (0 ∷ 4 ∷ 0 ∷ []) ∷ (0 ∷ 2 ∷ 0 ∷ []) ∷ (8 ∷ 4 ∷ 168 ∷ []) ∷ (8 ∷ 2 ∷ 168 ∷ []) ∷ []
unfolding traces_too
budget_last = refl

-- ---- the reader
-- all eighteen are read where a hundred are asked for, and no line ends the reading
pub all_shown : shown_of doubler (shape_of doubler) text 100 ≡ 18
unfolding traces_too
all_shown = refl

pub no_line : ended_by text 100 18 ≡ 0
unfolding traces_too
no_line = refl

-- after so many frames: the block's chart state, its input, its output, the sink's input
pub shown :
    map (λ (n : ℕ). shown_words (shown_after (shape_of doubler) text n ready)) (0 ∷ 1 ∷ 4 ∷ 11 ∷ 12 ∷ 14 ∷ 15 ∷ 18 ∷ [])
    ≡ (0 ∷ 0 ∷ 0 ∷ 0 ∷ []) ∷ (0 ∷ 21 ∷ 0 ∷ 0 ∷ []) ∷ (1 ∷ 21 ∷ 0 ∷ 0 ∷ []) ∷ (1 ∷ 21 ∷ 42 ∷ 0 ∷ [])
    ∷ (0 ∷ 21 ∷ 42 ∷ 0 ∷ []) ∷ (0 ∷ 21 ∷ 42 ∷ 0 ∷ []) ∷ (0 ∷ 21 ∷ 42 ∷ 42 ∷ []) ∷ (0 ∷ 21 ∷ 42 ∷ 42 ∷ []) ∷ []
unfolding traces_too
shown = refl

-- a damaged fifth line ends the reading there, and what the four before it say is shown
pub four_shown : shown_of doubler (shape_of doubler) damaged 100 ≡ 4
unfolding traces_too
four_shown = refl

pub line_five_ends : ended_by damaged 100 4 ≡ 5
unfolding traces_too
line_five_ends = refl

pub shown_before_it : shown_after (shape_of doubler) damaged 4 ready ≡ shown_after (shape_of doubler) text 4 ready
unfolding traces_too
shown_before_it = refl

-- ---- a transition to its own state: enabled, its action begins, no chart state
pub own_state : map (entries_at own woken) (0 ∷ 1 ∷ []) ≡ (entry 4 0 0 1 ∷ entry 6 0 0 1 ∷ []) ∷ (entry 8 0 0 1 ∷ entry 9 0 0 1 ∷ []) ∷ []
unfolding traces_too
own_state = refl

-- ---- an interface: its inputs and their partners by id, though sampled in another order, then what happened, by kind
pub interface_accepted : judge interface ≡ accepted
unfolding traces_too
interface_accepted = refl

pub interface_traced :
    entries_at interface given 0
    ≡ entry 2 1 2 31 ∷ entry 2 1 3 32 ∷ entry 3 1 4 31 ∷ entry 3 1 5 32 ∷ entry 4 1 0 1 ∷ entry 5 1 0 1 ∷ entry 6 1 0 1 ∷ entry 7 1 1 1 ∷ []
unfolding traces_too
interface_traced = refl
