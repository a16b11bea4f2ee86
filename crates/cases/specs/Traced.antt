-- Sessions whose runs are traced: document 01's worked one, one with a transition to its own state, one through an interface.
use Rattle.std.specs.Prelude.{ℕ, List, [], ◌∷◌, length, replicate, set}
use Rattle.rules_tables.specs.Judge.{accepted, shape_of}
use Rattle.rules_store.specs.Word.{Store, now_of, chart_state, put_input, value}
use Rattle.rules_calls.specs.Run.{after}
use Rattle.rules_calls.specs.Public.{load, advance, arrival}
use Rattle.rules_traces.specs.declared.Entry.{Entry}
use Rattle.rules_traces.specs.Entry.{entry, entry_lines}
use Rattle.rules_traces.specs.Trace.{entries_of}
use Rattle.rules_traces.specs.Run.{trace, traced_stop}
use Rattle.rules_traces.specs.Public.{traced_moves}
use Rattle.cases_tables.specs.Worked.{frame, bytes, worked, small}
use Rattle.cases.specs.Script.{stored}

-- the frames of the move that comes after n moves from s
abbrev pub entries_at : (T : List ℕ) → Store → (n : ℕ) → List Entry
entries_at T s n = entries_of T (shape_of T) (now_of s) (after T (shape_of T) (now_of s) n s)

-- ---- "A source, a block that doubles, a sink", at 10, with 21 arrived
abbrev pub doubler : List ℕ
doubler = bytes worked

abbrev pub ready : Store
ready = stored accepted doubler 4096 (replicate 39 7) (load ∷ advance 10 ∷ arrival 0 7 (21 ∷ []) ∷ [])

-- the frames of its nine moves: kind, block, id, value
abbrev pub frames : List Entry
frames =
    -- the block's event is taken, and its input sampled
    entry 2 1 1 21 ∷ entry 4 1 0 1 ∷ entry 6 1 0 1 ∷
    -- the transition to state 1
    entry 0 1 0 1 ∷ entry 8 1 0 1 ∷ entry 9 1 0 1 ∷
    -- the step
    entry 3 1 2 42 ∷ entry 10 1 0 1 ∷
    -- its action ends and fires
    entry 7 1 1 1 ∷ entry 9 1 0 0 ∷ entry 10 1 0 0 ∷
    -- no action is left; the transition to state 0; none again
    entry 0 1 0 0 ∷ entry 8 1 1 1 ∷
    -- the block ends
    entry 5 1 0 1 ∷
    -- the sink's event
    entry 2 2 3 42 ∷ entry 4 2 0 1 ∷ entry 5 2 0 1 ∷ entry 6 2 1 1 ∷ []

-- the same eighteen in bytes
abbrev pub frame_bytes : List ℕ
frame_bytes =
    132 ∷ 2 ∷ 0 ∷ 1 ∷ 0 ∷ 1 ∷ 0 ∷ 0 ∷ 0 ∷ 21 ∷ 0 ∷ 0 ∷
    132 ∷ 4 ∷ 0 ∷ 1 ∷ 0 ∷ 0 ∷ 0 ∷ 0 ∷ 0 ∷ 1 ∷ 0 ∷ 0 ∷
    132 ∷ 6 ∷ 0 ∷ 1 ∷ 0 ∷ 0 ∷ 0 ∷ 0 ∷ 0 ∷ 1 ∷ 0 ∷ 0 ∷
    132 ∷ 0 ∷ 0 ∷ 1 ∷ 0 ∷ 0 ∷ 0 ∷ 0 ∷ 0 ∷ 1 ∷ 0 ∷ 0 ∷
    132 ∷ 8 ∷ 0 ∷ 1 ∷ 0 ∷ 0 ∷ 0 ∷ 0 ∷ 0 ∷ 1 ∷ 0 ∷ 0 ∷
    132 ∷ 9 ∷ 0 ∷ 1 ∷ 0 ∷ 0 ∷ 0 ∷ 0 ∷ 0 ∷ 1 ∷ 0 ∷ 0 ∷
    132 ∷ 3 ∷ 0 ∷ 1 ∷ 0 ∷ 2 ∷ 0 ∷ 0 ∷ 0 ∷ 42 ∷ 0 ∷ 0 ∷
    132 ∷ 10 ∷ 0 ∷ 1 ∷ 0 ∷ 0 ∷ 0 ∷ 0 ∷ 0 ∷ 1 ∷ 0 ∷ 0 ∷
    132 ∷ 7 ∷ 0 ∷ 1 ∷ 0 ∷ 1 ∷ 0 ∷ 0 ∷ 0 ∷ 1 ∷ 0 ∷ 0 ∷
    132 ∷ 9 ∷ 0 ∷ 1 ∷ 0 ∷ 0 ∷ 0 ∷ 0 ∷ 0 ∷ 0 ∷ 0 ∷ 0 ∷
    132 ∷ 10 ∷ 0 ∷ 1 ∷ 0 ∷ 0 ∷ 0 ∷ 0 ∷ 0 ∷ 0 ∷ 0 ∷ 0 ∷
    132 ∷ 0 ∷ 0 ∷ 1 ∷ 0 ∷ 0 ∷ 0 ∷ 0 ∷ 0 ∷ 0 ∷ 0 ∷ 0 ∷
    132 ∷ 8 ∷ 0 ∷ 1 ∷ 0 ∷ 1 ∷ 0 ∷ 0 ∷ 0 ∷ 1 ∷ 0 ∷ 0 ∷
    132 ∷ 5 ∷ 0 ∷ 1 ∷ 0 ∷ 0 ∷ 0 ∷ 0 ∷ 0 ∷ 1 ∷ 0 ∷ 0 ∷
    132 ∷ 2 ∷ 0 ∷ 2 ∷ 0 ∷ 3 ∷ 0 ∷ 0 ∷ 0 ∷ 42 ∷ 0 ∷ 0 ∷
    132 ∷ 4 ∷ 0 ∷ 2 ∷ 0 ∷ 0 ∷ 0 ∷ 0 ∷ 0 ∷ 1 ∷ 0 ∷ 0 ∷
    132 ∷ 5 ∷ 0 ∷ 2 ∷ 0 ∷ 0 ∷ 0 ∷ 0 ∷ 0 ∷ 1 ∷ 0 ∷ 0 ∷
    132 ∷ 6 ∷ 0 ∷ 2 ∷ 0 ∷ 1 ∷ 0 ∷ 0 ∷ 0 ∷ 1 ∷ 0 ∷ 0 ∷ []

-- the line of the seventh: 8403000100020000002A0000
abbrev pub seventh : List ℕ
seventh =
    56 ∷ 52 ∷ 48 ∷ 51 ∷ 48 ∷ 48 ∷ 48 ∷ 49 ∷ 48 ∷ 48 ∷ 48 ∷ 50 ∷ 48 ∷ 48 ∷ 48 ∷ 48 ∷ 48 ∷ 48 ∷ 50 ∷ 65 ∷ 48 ∷ 48 ∷ 48 ∷ 48 ∷ 10 ∷ []

-- the text that a debugger opens
abbrev pub text : List ℕ
text = entry_lines frames

-- the same with a small letter in its fifth line
abbrev pub damaged : List ℕ
damaged = set text 101 97

-- of a store that is shown: the block's chart state, its input and output, the sink's input
abbrev pub shown_words : Store → List ℕ
shown_words s = chart_state s 1 ∷ value (shape_of doubler) s 1 ∷ value (shape_of doubler) s 2 ∷ value (shape_of doubler) s 3 ∷ []

-- what a traced run with this budget tells, with so much room for output and so much space for the trace: moves, stop number, bytes of the trace
pub record Asked : Type 0 where
  pub budget : ℕ
  pub room : ℕ
  pub space : ℕ

abbrev pub asked : (budget room space : ℕ) → Asked
asked budget room space = record { budget = budget; room = room; space = space }

abbrev pub tells : Asked → List ℕ
tells a = told (traced_moves doubler ready a.budget a.room a.space)
  where
    told : ℕ → List ℕ
    told m =
        m ∷ traced_stop doubler (shape_of doubler) (now_of ready) a.room a.space ready m
        ∷ length (trace doubler (shape_of doubler) (now_of ready) m ready) ∷ []

-- ---- one basic element with a transition to its own state: its event waits, as if it had fired itself
abbrev pub own : List ℕ
own = bytes small

abbrev pub woken : Store
woken = put_input (shape_of own) 0 1 0 0 (stored accepted own 0 (replicate 26 7) (load ∷ []))

-- ---- a source and an interface, whose event input has its two inputs in falling order of their ids
unfoldable pub passing : List (List ℕ)
passing =
    frame 1 3 1 0 0 0 0 ∷
    frame 1 1 0 0 0 0 0 ∷
    frame 2 0 1 0 0 0 0 ∷
    frame 3 0 0 0 0 0 0 ∷
    frame 3 0 1 0 0 0 0 ∷
    -- variables: 0 and 1 the source's outputs, 2 and 3 the interface's inputs, 4 and 5 its outputs
    frame 4 1 0 0 0 0 0 ∷
    frame 4 1 0 0 0 0 0 ∷
    frame 4 0 1 0 0 0 0 ∷
    frame 4 0 1 0 0 0 0 ∷
    frame 4 1 1 0 0 0 0 ∷
    frame 4 1 1 0 0 0 0 ∷
    -- 3 before 2
    frame 5 0 0 3 0 0 0 ∷
    frame 5 0 0 2 0 0 0 ∷
    frame 5 1 0 0 0 0 0 ∷
    frame 5 1 0 1 0 0 0 ∷
    frame 10 0 0 0 0 0 0 ∷
    frame 11 0 0 2 0 0 0 ∷
    frame 11 0 1 3 0 0 0 ∷ []

abbrev pub interface : List ℕ
interface = bytes passing

abbrev pub given : Store
given = stored accepted interface 0 (replicate 37 7) (load ∷ arrival 0 0 (31 ∷ 32 ∷ []) ∷ [])
