-- "A reader takes the starting store and the trace and shows the store's chart states and values after any frame. .. A line of a wrong form, an unknown block,
-- or an id or chart state not of that block and kind ends the reading there, by line number from 1."
use Rattle.std.specs.Prelude.{ℕ, ◌+◌, ◌*◌, List, Bool, false, eqb, ltb, length, get_or, take, drop}
use Rattle.rules_walks.specs.Pick.{pick, both, either}
use Rattle.rules_walks.specs.Choose.{choose}
use Rattle.rules_walks.specs.Walk.{up_to}
use Rattle.rules_walks.specs.Held.{held_to}
use Rattle.rules_tables.specs.Kind.{input, output, internal}
use Rattle.rules_tables.specs.Frame.{Table, kind_at, flag_at, field_at}
use Rattle.rules_tables.specs.declared.Shape.{Shape}
use Rattle.rules_tables.specs.Ids.{elements, inputs, outputs, variables, states, transitions, variable_frame, state_frame, transition_frame}
use Rattle.rules_store.specs.Word.{Store, put_chart_state, put_value}
use Rattle.rules_moves.specs.Partner.{input_owner, output_owner, variable_owner}
use Rattle.rules_sessions.specs.Line.{all_digits, line_frame}
use Rattle.rules_sessions.specs.Command.{long_at}
use Rattle.rules_traces.specs.declared.Entry.{Entry}
use Rattle.rules_traces.specs.Kinds.{chart_kind, internal_kind, input_kind, output_kind, started_kind, finished_kind, selected_kind, emitted_kind, enabled_kind, action_kind, step_kind}
use Rattle.rules_traces.specs.Entry.{entry, trace_byte}

-- ---- lines: "a line of 24 digits", upper-case hexadecimal, ended by 0A, the last perhaps not. Each line before it being one, line k, from 0, lies at 25 k
unfoldable pub line_at : List ℕ → (k : ℕ) → List ℕ
line_at text k = take 24 (drop (25 * k) text)

-- there is a line k
unfoldable pub another_line : List ℕ → (k : ℕ) → Bool
another_line text k = ltb (25 * k) (length text)

unfoldable pub ended_at : List ℕ → (at : ℕ) → Bool
ended_at text at = either (eqb (length text) at) (eqb (get_or text at 0) 10)

unfoldable pub whole_line : List ℕ → (k : ℕ) → Bool
whole_line text k = both (eqb (length (line_at text k)) 24) (both (all_digits (line_at text k)) (ended_at text (25 * k + 24)))

-- ---- frames
-- what frame F says
unfoldable pub entry_in : List ℕ → Entry
entry_in F = entry (flag_at F 0) (field_at F 0 0) (field_at F 0 1) (long_at F 2)

-- 84, and e zero
unfoldable pub right_frame : List ℕ → Bool
right_frame F = both (eqb (kind_at F 0) trace_byte) (eqb (field_at F 0 4) 0)

-- no id is named
unfoldable pub nameless : Entry → Bool
nameless e = eqb e.id 0

-- it only says that something happened
unfoldable pub happened : Entry → Bool
happened e = eqb e.value 1

-- the value is a chart state of the block
unfoldable pub of_chart : Table → Shape → Entry → Bool
of_chart T S e = both (ltb e.value (states S)) (eqb (field_at T (state_frame S e.value) 0) e.block)

-- the id is a variable of the block, in this role
unfoldable pub of_variable : Table → Shape → (role : ℕ) → Entry → Bool
of_variable T S role e =
    both (ltb e.id (variables S)) (both (eqb (variable_owner T S e.id) e.block) (eqb (flag_at T (variable_frame S e.id)) role))

-- the id is an event input, an event output, a transition of the block
unfoldable pub of_event_input : Table → Shape → Entry → Bool
of_event_input T S e = both (ltb e.id (inputs S)) (eqb (input_owner T S e.id) e.block)

unfoldable pub of_event_output : Table → Shape → Entry → Bool
of_event_output T S e = both (ltb e.id (outputs S)) (eqb (output_owner T S e.id) e.block)

unfoldable pub of_transition : Table → Shape → Entry → Bool
of_transition T S e =
    both (ltb e.id (transitions S)) (eqb (field_at T (state_frame S (field_at T (transition_frame S e.id) 0)) 0) e.block)

-- by its kind; there is no kind above 10
unfoldable pub right_kind : Table → Shape → Entry → Bool
right_kind T S e =
    pick (eqb e.kind chart_kind) (both (nameless e) (of_chart T S e))
    (pick (eqb e.kind internal_kind) (of_variable T S internal e)
    (pick (eqb e.kind input_kind) (of_variable T S input e)
    (pick (eqb e.kind output_kind) (of_variable T S output e)
    (pick (eqb e.kind started_kind) (both (nameless e) (happened e))
    (pick (eqb e.kind finished_kind) (both (nameless e) (happened e))
    (pick (eqb e.kind selected_kind) (both (of_event_input T S e) (happened e))
    (pick (eqb e.kind emitted_kind) (both (of_event_output T S e) (happened e))
    (pick (eqb e.kind enabled_kind) (both (of_transition T S e) (happened e))
    (pick (eqb e.kind action_kind) (nameless e)
    (pick (eqb e.kind step_kind) (nameless e) false))))))))))

-- of a block that there is
unfoldable pub known_entry : Table → Shape → Entry → Bool
known_entry T S e = both (ltb e.block (elements S)) (right_kind T S e)

-- ---- reading
abbrev pub frame_at : List ℕ → (k : ℕ) → List ℕ
frame_at text k = line_frame (line_at text k)

unfoldable pub entry_at : List ℕ → (k : ℕ) → Entry
entry_at text k = entry_in (frame_at text k)

-- there is a line k, and it does not end the reading
unfoldable pub readable : Table → Shape → List ℕ → (k : ℕ) → Bool
readable T S text k =
    both (another_line text k) (both (whole_line text k) (both (right_frame (frame_at text k)) (known_entry T S (entry_at text k))))

-- how many frames are read of so many
unfoldable pub shown_of : Table → Shape → List ℕ → (frames : ℕ) → ℕ
shown_of T S text frames = held_to (readable T S text) frames

-- the line that ended the reading after n frames, "by line number from 1"; 0 for none
unfoldable pub ended_by : List ℕ → (frames n : ℕ) → ℕ
ended_by text frames n = pick (both (ltb n frames) (another_line text n)) (n + 1) 0

-- ---- showing: what a frame says of chart states and values goes to the store
unfoldable pub show_entry : Shape → Entry → Store → Store
show_entry S e s =
    choose (eqb e.kind chart_kind) (put_chart_state e.block e.value s) (choose (ltb e.kind started_kind) (put_value S e.id e.value s) s)

-- the store after n frames
unfoldable pub shown_after : Shape → List ℕ → (n : ℕ) → Store → Store
shown_after S text n s = up_to (λ (k : ℕ) (x : Store). show_entry S (entry_at text k) x) n s
