-- Tables with their verdicts, and with the spans of views: one table of cases, one claim. The tables of document 01, and for each kind and number
-- small tables with one thing wrong.
use Rattle.std.specs.Prelude.{List, [], ◌∷◌, ◌++◌, Bool, true, false, ℕ, zero, suc, set, take, drop, replicate}
use Rattle.rules_tables.specs.Form.{form_ok}
use Rattle.rules_tables.specs.declared.Span.{Span}
use Rattle.rules_tables.specs.Judge.{Verdict, accepted, refused, judge}
use Rattle.rules_tables.specs.View.{span, kind_span, step_span}
use Rattle.cases_tables.specs.Worked.{frame, bytes, worked, small, bare, pair}

-- what is asked of a table: the verdict, whether a frame has its form, the frames of a kind, or the steps of an action
pub data Asked : Type 0 where
  check : Asked
  form : ℕ → Asked
  kind : ℕ → Asked
  steps : ℕ → Asked

pub data Told : Type 0 where
  verdict : Verdict → Told
  formed : Bool → Told
  shown : Span → Told

abbrev pub answer : List ℕ → Asked → Told
answer T check = verdict (judge T)
answer T (form f) = formed (form_ok T f)
answer T (kind k) = shown (kind_span T k)
answer T (steps id) = shown (step_span T id)

pub record Case : Type 0 where
  pub table : List ℕ
  pub asked : Asked
  pub want : Told

abbrev gives : List (List ℕ) → Verdict → Case
gives fs v = record { table = bytes fs; asked = check; want = verdict v }

-- frame f has its form, or not
abbrev forms_at : List (List ℕ) → ℕ → Bool → Case
forms_at fs f b = record { table = bytes fs; asked = form f; want = formed b }

-- a view gives so many frames from a frame on
abbrev shows : List (List ℕ) → Asked → ℕ → ℕ → Case
shows fs a first count = record { table = bytes fs; asked = a; want = shown (span first count) }

abbrev broken : List ℕ → Case
broken T = record { table = T; asked = check; want = verdict (refused 1 0) }

-- the small table with frame i replaced, or with two replaced
abbrev but : ℕ → List ℕ → List (List ℕ)
but i x = set small i x

abbrev but2 : ℕ → List ℕ → ℕ → List ℕ → List (List ℕ)
but2 i x j y = set (set small i x) j y

-- the table of two elements with frame i replaced
abbrev other : ℕ → List ℕ → List (List ℕ)
other i x = set pair i x

-- with a frame put in before frame i
abbrev with : ℕ → List ℕ → List (List ℕ)
with i x = take i small ++ (x ∷ drop i small)

abbrev repeated : ℕ → List (List ℕ) → List (List ℕ)
repeated zero fs = []
repeated (suc n) fs = fs ++ repeated n fs

-- a sink with an event and so many variables
abbrev sink : ℕ → List (List ℕ)
sink n = frame 1 4 0 0 0 0 0 ∷ frame 2 0 0 0 0 0 0 ∷ repeated n (frame 4 0 0 0 0 0 0 ∷ [])

-- a basic element with an event input, an event output, eight inputs and an output
abbrev both_events : List (List ℕ)
both_events =
    frame 1 0 0 0 0 0 0 ∷ frame 2 0 0 0 0 0 0 ∷ frame 3 0 0 0 0 0 0 ∷ (repeated 8 (frame 4 0 0 0 0 0 0 ∷ []) ++ (frame 4 1 0 0 0 0 0 ∷ []))

-- a delay with so many event inputs and event outputs, and these variables
abbrev delay_of : ℕ → ℕ → List (List ℕ) → List (List ℕ)
delay_of ins outs vs = (frame 1 2 0 0 0 0 0 ∷ []) ++ locals ins ++ repeated outs (frame 3 0 0 0 0 0 0 ∷ []) ++ vs
  where
    locals : ℕ → List (List ℕ)
    locals zero = []
    locals (suc n) = frame 2 n 0 0 0 0 0 ∷ locals n

-- event input 0 with the first n variables, from the last on
abbrev associated : ℕ → List (List ℕ)
associated zero = []
associated (suc n) = frame 5 0 0 n 0 0 0 ∷ associated n

-- so many sources, of priorities that fall
abbrev sources : ℕ → List (List ℕ)
sources zero = []
sources (suc n) = frame 1 3 n 0 0 0 0 ∷ sources n

-- ---- tables that are accepted
abbrev sound : List Case
sound =
    gives worked accepted ∷
    gives small accepted ∷
    gives bare accepted ∷
    -- a source, an interface and a sink without parts
    gives (frame 1 3 2 0 0 0 0 ∷ frame 1 1 1 0 0 0 0 ∷ frame 1 4 0 0 0 0 0 ∷ []) accepted ∷
    -- a delay
    gives (frame 1 2 0 0 0 0 0 ∷ frame 2 0 0 0 0 0 0 ∷ frame 2 1 0 0 0 0 0 ∷ frame 3 0 0 0 0 0 0 ∷ frame 4 0 0 0 0 0 0 ∷ []) accepted ∷
    -- no event, no guard
    gives (but 7 (frame 7 0 0 0 65535 0 0)) accepted ∷
    -- no steps, no event; the first step is then no reference
    gives (but 8 (frame 8 0 0 7 0 65535 0)) accepted ∷
    -- copy and age
    gives (but 9 (frame 9 0 1 0 0 0 0)) accepted ∷
    gives (but 9 (frame 9 8 1 0 0 0 0)) accepted ∷
    -- the event output with the output, beside the event input with the input
    gives (with 6 (frame 5 1 0 1 0 0 0)) accepted ∷
    -- eight variables for one event; eight for event input 0 and one for event output 0
    gives (sink 9 ++ associated 8) accepted ∷
    gives (both_events ++ associated 8 ++ (frame 5 1 0 8 0 0 0 ∷ frame 6 0 0 0 0 0 0 ∷ [])) accepted ∷ []

-- ---- 1
abbrev lengths : List Case
lengths =
    broken [] ∷
    broken (frame 1 0 0 0 0 0 0 ++ (0 ∷ [])) ∷
    broken (replicate 49164 0) ∷ []

-- ---- 2, kind by kind
abbrev forms : List Case
forms =
    gives (but 0 (frame 0 0 0 0 0 0 0)) (refused 2 0) ∷
    gives (but 11 (frame 12 0 0 0 0 0 0)) (refused 2 11) ∷
    gives (but 3 (frame 2 0 0 0 0 0 0)) (refused 2 3) ∷
    gives (but 0 (frame 1 5 0 0 0 0 0)) (refused 2 0) ∷
    gives (but 0 (frame 1 3 0 1 0 0 0)) (refused 2 0) ∷
    gives (but 1 (frame 2 0 0 1 0 0 0)) (refused 2 1) ∷
    gives (but 2 (frame 3 1 0 0 0 0 0)) (refused 2 2) ∷
    gives (but 3 (frame 4 3 0 0 0 0 0)) (refused 2 3) ∷
    gives (but 5 (frame 5 2 0 0 0 0 0)) (refused 2 5) ∷
    gives (but 6 (frame 6 0 0 0 0 0 1)) (refused 2 6) ∷
    gives (but 7 (frame 7 5 0 0 0 0 1)) (refused 2 7) ∷
    gives (but 7 (frame 7 0 0 0 0 0 1)) (refused 2 7) ∷
    gives (but 8 (frame 8 0 0 0 65 0 0)) (refused 2 8) ∷
    gives (but 9 (frame 9 9 1 0 1 0 0)) (refused 2 9) ∷
    gives (but 9 (frame 9 0 1 0 1 0 0)) (refused 2 9) ∷
    gives (but 10 (frame 10 1 0 0 0 0 0)) (refused 2 10) ∷
    gives (but 11 (frame 11 0 1 0 1 0 0)) (refused 2 11) ∷
    -- a sixty-fifth element
    gives (sources 65) (refused 2 64) ∷ []

-- ---- the greatest numbers of frames: the last that may be, and the one after it. Larger tables are dear to compute: their numbers are `most_frames` below
abbrev limits : List Case
limits =
    forms_at (sources 65) 63 true ∷
    forms_at (sources 65) 64 false ∷
    forms_at (repeated 257 (frame 2 0 0 0 0 0 0 ∷ [])) 255 true ∷
    forms_at (repeated 257 (frame 2 0 0 0 0 0 0 ∷ [])) 256 false ∷
    forms_at (repeated 257 (frame 3 0 0 0 0 0 0 ∷ [])) 255 true ∷
    forms_at (repeated 257 (frame 3 0 0 0 0 0 0 ∷ [])) 256 false ∷ []

-- ---- 3, kind by kind
abbrev references : List Case
references =
    gives (but 0 (frame 1 0 0 1 0 0 0)) (refused 3 0) ∷
    -- the initial state of another element
    gives (frame 1 0 0 0 0 0 0 ∷ frame 1 0 1 0 0 0 0 ∷ frame 6 0 0 0 0 0 0 ∷ frame 6 0 1 0 0 0 0 ∷ []) (refused 3 1) ∷
    gives (but 1 (frame 2 0 1 0 0 0 0)) (refused 3 1) ∷
    gives (but 2 (frame 3 0 1 0 0 0 0)) (refused 3 2) ∷
    gives (but 3 (frame 4 0 1 0 0 0 0)) (refused 3 3) ∷
    gives (but 5 (frame 5 0 1 0 0 0 0)) (refused 3 5) ∷
    gives (but 5 (frame 5 0 0 2 0 0 0)) (refused 3 5) ∷
    -- an event input with an output, an event output with an input
    gives (but 5 (frame 5 0 0 1 0 0 0)) (refused 3 5) ∷
    gives (but 5 (frame 5 1 0 0 0 0 0)) (refused 3 5) ∷
    -- an output association of an interface
    gives (frame 1 1 0 0 0 0 0 ∷ frame 2 0 0 0 0 0 0 ∷ frame 3 0 0 0 0 0 0 ∷ frame 4 0 0 0 0 0 0 ∷ frame 4 1 0 0 0 0 0 ∷ frame 5 1 0 1 0 0 0 ∷ []) (refused 3 5) ∷
    gives (but 6 (frame 6 0 1 0 0 0 0)) (refused 3 0) ∷
    -- a state of a source
    gives (frame 1 3 0 0 0 0 0 ∷ frame 6 0 0 0 0 0 0 ∷ []) (refused 3 1) ∷
    gives (but 7 (frame 7 1 1 0 0 0 1)) (refused 3 7) ∷
    gives (but 7 (frame 7 1 0 1 0 0 1)) (refused 3 7) ∷
    gives (but 7 (frame 7 1 0 0 1 0 1)) (refused 3 7) ∷
    gives (but 7 (frame 7 1 0 0 0 2 1)) (refused 3 7) ∷
    gives (but 7 (frame 7 1 0 0 0 0 2)) (refused 3 7) ∷
    gives (but 8 (frame 8 0 1 0 1 0 0)) (refused 3 8) ∷
    gives (but 8 (frame 8 0 0 0 2 0 0)) (refused 3 8) ∷
    gives (but 8 (frame 8 0 0 1 1 0 0)) (refused 3 8) ∷
    gives (but 8 (frame 8 0 0 0 1 1 0)) (refused 3 8) ∷
    -- the result does not exist: the action comes first
    gives (but 9 (frame 9 1 2 0 1 0 0)) (refused 3 8) ∷
    -- the result is an input
    gives (but 9 (frame 9 1 0 0 1 0 0)) (refused 3 9) ∷
    gives (but 9 (frame 9 1 1 2 1 0 0)) (refused 3 9) ∷
    gives (but 9 (frame 9 1 1 0 2 0 0)) (refused 3 9) ∷
    gives (but 10 (frame 10 0 1 0 0 0 0)) (refused 3 10) ∷
    gives (but 10 (frame 10 0 0 1 0 0 0)) (refused 3 10) ∷
    gives (but 11 (frame 11 0 0 0 0 0 0)) (refused 3 11) ∷
    gives (but 11 (frame 11 0 1 1 0 0 0)) (refused 3 11) ∷ []

-- ---- 3, "of one element", "its own": by ids that exist and are the other element's
abbrev others : List Case
others =
    gives pair accepted ∷
    -- the initial state
    gives (other 0 (frame 1 0 0 1 0 0 0)) (refused 3 0) ∷
    -- an association's variable, of an event input and of an event output
    gives (other 10 (frame 5 0 0 2 0 0 0)) (refused 3 10) ∷
    gives (other 11 (frame 5 1 0 3 0 0 0)) (refused 3 11) ∷
    -- a transition's goal, event and variables
    gives (other 14 (frame 7 1 0 1 0 0 1)) (refused 3 14) ∷
    gives (other 14 (frame 7 1 0 0 1 0 1)) (refused 3 14) ∷
    gives (other 14 (frame 7 1 0 0 0 2 1)) (refused 3 14) ∷
    gives (other 14 (frame 7 1 0 0 0 0 3)) (refused 3 14) ∷
    -- an action's event; the result of its step, which belongs with its operands to the other element
    gives (other 15 (frame 8 0 0 0 1 1 0)) (refused 3 15) ∷
    gives (other 16 (frame 9 1 3 2 3 0 0)) (refused 3 15) ∷
    -- a step's operands
    gives (other 16 (frame 9 1 1 2 1 0 0)) (refused 3 16) ∷
    gives (other 16 (frame 9 1 1 0 3 0 0)) (refused 3 16) ∷
    -- a step of an interface
    gives (frame 1 1 0 0 0 0 0 ∷ frame 4 0 0 0 0 0 0 ∷ frame 4 1 0 0 0 0 0 ∷ frame 9 0 1 0 0 0 0 ∷ []) (refused 3 3) ∷
    -- a state of an interface, of a delay, of a sink
    gives (frame 1 1 0 0 0 0 0 ∷ frame 6 0 0 0 0 0 0 ∷ []) (refused 3 1) ∷
    gives (frame 1 2 0 0 0 0 0 ∷ frame 6 0 0 0 0 0 0 ∷ []) (refused 4 0) ∷
    gives (frame 1 4 0 0 0 0 0 ∷ frame 6 0 0 0 0 0 0 ∷ []) (refused 3 1) ∷
    -- a data connection from an internal variable, and to one
    gives (frame 1 0 0 0 0 0 0 ∷ frame 4 2 0 0 0 0 0 ∷ frame 4 0 0 0 0 0 0 ∷ frame 6 0 0 0 0 0 0 ∷ frame 11 0 0 1 0 0 0 ∷ []) (refused 3 4) ∷
    gives (frame 1 0 0 0 0 0 0 ∷ frame 4 1 0 0 0 0 0 ∷ frame 4 2 0 0 0 0 0 ∷ frame 6 0 0 0 0 0 0 ∷ frame 11 0 0 1 0 0 0 ∷ []) (refused 3 4) ∷ []

-- ---- 4
abbrev rules : List Case
rules =
    gives (worked ++ (frame 11 0 2 3 0 0 0 ∷ [])) (refused 4 25) ∷
    -- one priority twice
    gives (frame 1 3 7 0 0 0 0 ∷ frame 1 4 7 0 0 0 0 ∷ []) (refused 4 1) ∷
    -- a source with an event input, with an input; a sink with an event output, with an output
    gives (frame 1 3 0 0 0 0 0 ∷ frame 2 0 0 0 0 0 0 ∷ []) (refused 4 0) ∷
    gives (frame 1 3 0 0 0 0 0 ∷ frame 4 0 0 0 0 0 0 ∷ []) (refused 4 0) ∷
    gives (frame 1 4 0 0 0 0 0 ∷ frame 3 0 0 0 0 0 0 ∷ []) (refused 4 0) ∷
    gives (frame 1 4 0 0 0 0 0 ∷ frame 4 1 0 0 0 0 0 ∷ []) (refused 4 0) ∷
    -- an interface with an event input alone, with an input alone, with an internal variable
    gives (frame 1 1 0 0 0 0 0 ∷ frame 2 0 0 0 0 0 0 ∷ []) (refused 4 0) ∷
    gives (frame 1 1 0 0 0 0 0 ∷ frame 4 0 0 0 0 0 0 ∷ []) (refused 4 0) ∷
    gives (frame 1 1 0 0 0 0 0 ∷ frame 4 2 0 0 0 0 0 ∷ []) (refused 4 0) ∷
    -- a delay without STOP
    gives (frame 1 2 0 0 0 0 0 ∷ frame 2 0 0 0 0 0 0 ∷ frame 3 0 0 0 0 0 0 ∷ frame 4 0 0 0 0 0 0 ∷ []) (refused 4 0) ∷
    -- a source and a sink with an internal variable
    gives (frame 1 3 0 0 0 0 0 ∷ frame 4 2 0 0 0 0 0 ∷ []) (refused 4 0) ∷
    gives (frame 1 4 0 0 0 0 0 ∷ frame 4 2 0 0 0 0 0 ∷ []) (refused 4 0) ∷
    -- an interface with an event output alone, with an output alone
    gives (frame 1 1 0 0 0 0 0 ∷ frame 3 0 0 0 0 0 0 ∷ []) (refused 4 0) ∷
    gives (frame 1 1 0 0 0 0 0 ∷ frame 4 1 0 0 0 0 0 ∷ []) (refused 4 0) ∷
    -- a delay with a third event input; without event output, with two; without DT, with two, with an output, an internal variable beside it
    gives (delay_of 3 1 (frame 4 0 0 0 0 0 0 ∷ [])) (refused 4 0) ∷
    gives (delay_of 2 0 (frame 4 0 0 0 0 0 0 ∷ [])) (refused 4 0) ∷
    gives (delay_of 2 2 (frame 4 0 0 0 0 0 0 ∷ [])) (refused 4 0) ∷
    gives (delay_of 2 1 []) (refused 4 0) ∷
    gives (delay_of 2 1 (frame 4 0 0 0 0 0 0 ∷ frame 4 0 0 0 0 0 0 ∷ [])) (refused 4 0) ∷
    gives (delay_of 2 1 (frame 4 0 0 0 0 0 0 ∷ frame 4 1 0 0 0 0 0 ∷ [])) (refused 4 0) ∷
    gives (delay_of 2 1 (frame 4 0 0 0 0 0 0 ∷ frame 4 2 0 0 0 0 0 ∷ [])) (refused 4 0) ∷
    gives (delay_of 2 1 (frame 4 1 0 0 0 0 0 ∷ [])) (refused 4 0) ∷
    gives (delay_of 2 1 (frame 4 0 0 0 0 0 0 ∷ [])) accepted ∷
    -- one local priority twice
    gives (with 2 (frame 2 0 0 0 0 0 0)) (refused 4 2) ∷
    -- pairs twice
    gives (with 6 (frame 5 0 0 0 0 0 0)) (refused 4 6) ∷
    gives (with 11 (frame 10 0 0 0 0 0 0)) (refused 4 11) ∷
    -- a ninth variable for one event
    gives (sink 9 ++ associated 9) (refused 4 19) ∷ []

-- ---- "the lowest faulty frame is named, and on it the lowest number"
abbrev orders : List Case
orders =
    gives (but2 3 (frame 4 0 1 0 0 0 0) 9 (frame 9 9 1 0 1 0 0)) (refused 3 3) ∷
    gives (but2 3 (frame 4 3 0 0 0 0 0) 9 (frame 9 1 0 0 1 0 0)) (refused 2 3) ∷
    gives (frame 1 3 0 0 0 0 0 ∷ frame 2 0 0 1 0 0 0 ∷ []) (refused 4 0) ∷
    -- 2 and 3; 3 and 4; 2 and 4
    gives (but 10 (frame 10 1 1 0 0 0 0)) (refused 2 10) ∷
    gives (frame 1 3 0 0 0 0 0 ∷ frame 1 0 0 0 0 0 0 ∷ []) (refused 3 1) ∷
    gives (frame 1 3 0 0 0 0 0 ∷ frame 1 4 0 1 0 0 0 ∷ []) (refused 2 1) ∷ []

-- ---- views
abbrev views : List Case
views =
    shows worked (kind 1) 0 3 ∷
    shows worked (kind 5) 11 4 ∷
    shows worked (kind 11) 23 2 ∷
    -- a kind without frames
    shows bare (kind 2) 0 0 ∷
    -- no kind
    shows worked (kind 0) 0 0 ∷
    shows worked (kind 12) 0 0 ∷
    shows worked (steps 0) 20 1 ∷
    -- no action, an action without steps
    shows worked (steps 1) 0 0 ∷
    shows (but 8 (frame 8 0 0 7 0 65535 0)) (steps 0) 0 0 ∷
    -- a refused table
    shows (worked ++ (frame 11 0 2 3 0 0 0 ∷ [])) (kind 1) 0 0 ∷
    shows (worked ++ (frame 11 0 2 3 0 0 0 ∷ [])) (steps 0) 0 0 ∷ []

abbrev pub cases : List Case
cases = sound ++ lengths ++ forms ++ limits ++ references ++ others ++ rules ++ orders ++ views
