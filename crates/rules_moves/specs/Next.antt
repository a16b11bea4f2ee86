-- One move: which of document 01's six comes next and what it found; and by that alone the store after it, what it writes and how much, and whether it is an
-- untrue step. `time` is the store's now, which no move changes.
use Rattle.std.specs.Prelude.{ℕ, ◌+◌, ◌-◌, List, [], Bool, true, false, eqb, ltb, length}
use Rattle.rules_walks.specs.Choose.{choose}
use Rattle.rules_walks.specs.First.{Sought, one, missing}
use Rattle.rules_tables.specs.Frame.{field_at}
use Rattle.rules_tables.specs.declared.Shape.{Shape}
use Rattle.rules_store.specs.declared.Running.{Running}
use Rattle.rules_tables.specs.Ids.{action_frame, step_frame}
use Rattle.rules_store.specs.Running.{idle, charts, charting}
use Rattle.rules_store.specs.Word.{current_event, running_of, put_running, birth_of}
use Rattle.rules_moves.specs.Least.{Best}
use Rattle.std.specs.Prelude.{Some, None}
use Rattle.rules_moves.specs.declared.Next.{Next}
use Rattle.rules_moves.specs.declared.Next.TheVariants.{Take, Change, Idle, Step, End, Back, Nothing}
use Rattle.rules_moves.specs.Least.{least}
use Rattle.rules_moves.specs.Take.{taken}
use Rattle.rules_moves.specs.Record.{put_out}
use Rattle.rules_moves.specs.Chart.{transition_of, change, go_idle, element_of, state_of}
use Rattle.rules_tables.specs.Actions.{action_of}
use Rattle.rules_moves.specs.Act.{untrue_step, step_move, end_move}

-- ---- which move comes next
-- 1. "Idle, something waiting: take the least"
unfoldable pub event_next : Best → Next
event_next (Some (i, k)) = Take i
event_next None = Nothing

-- 2. "Mode 1: the first transition"; 3. "Mode 1, no such transition"
unfoldable pub chart_next : Sought → Next
chart_next (one j) = Change j
chart_next missing = Idle

-- 4. "Mode 2, steps left"; 5. "Mode 2, action's steps done"; 6. "Mode 2, action 0"
unfoldable pub act_next : List ℕ → Shape → Running → Sought → Next
act_next T S r (one j) = choose (ltb r.step (field_at T (action_frame S j) 2)) (Step (field_at T (action_frame S j) 1 + r.step)) (End j)
act_next T S r missing = Back

-- by the mode of the running block r
unfoldable pub next_by : List ℕ → Shape → Running → List ℕ → Next
next_by T S r s =
    choose (eqb r.mode idle) (event_next (least T S s))
    (choose (eqb r.mode charts) (chart_next (transition_of T S s (state_of s) (current_event s) r.live))
    (act_next T S r (action_of T S (state_of s) r.action)))

unfoldable pub next_of : List ℕ → Shape → List ℕ → Next
next_of T S s = next_by T S (running_of s) s

-- there is a move
abbrev pub moves : Next → Bool
moves (Take i) = true
moves (Change j) = true
moves Idle = true
moves (Step j) = true
moves (End j) = true
moves Back = true
moves Nothing = false

-- ---- the store after it
unfoldable pub move_by : List ℕ → Shape → ℕ → Next → List ℕ → List ℕ
move_by T S time (Take i) s = taken T S i time s
move_by T S time (Change j) s = change T S (element_of s) (running_of s) j s
move_by T S time Idle s = go_idle s
move_by T S time (Step j) s = step_move T S time (running_of s) j s
move_by T S time (End j) s = end_move T S time (state_of s) (running_of s) j s
move_by T S time Back s = put_running (charting (running_of s)) s
move_by T S time Nothing s = s

unfoldable pub move : List ℕ → Shape → ℕ → List ℕ → List ℕ
move T S time s = move_by T S time (next_of T S s) s

-- ---- how many untrue steps it makes: only a step can be one
unfoldable pub untrue_by : List ℕ → Shape → ℕ → Next → List ℕ → ℕ
untrue_by T S time (Take i) s = 0
untrue_by T S time (Change j) s = 0
untrue_by T S time Idle s = 0
untrue_by T S time (Step j) s = untrue_step T S (step_frame S j) (time - (running_of s).birth) s
untrue_by T S time (End j) s = 0
untrue_by T S time Back s = 0
untrue_by T S time Nothing s = 0

unfoldable pub untrue_move : List ℕ → Shape → ℕ → List ℕ → ℕ
untrue_move T S time s = untrue_by T S time (next_of T S s) s

-- ---- what it writes
unfoldable pub written_by : List ℕ → Shape → ℕ → Next → List ℕ → List ℕ
written_by T S time (Take i) s = put_out T S i (birth_of S s i) time s
written_by T S time (Change j) s = []
written_by T S time Idle s = []
written_by T S time (Step j) s = []
written_by T S time (End j) s = []
written_by T S time Back s = []
written_by T S time Nothing s = []

unfoldable pub written : List ℕ → Shape → ℕ → List ℕ → List ℕ
written T S time s = written_by T S time (next_of T S s) s

-- how many bytes that are, before it is made
unfoldable pub size_by : List ℕ → Shape → ℕ → Next → List ℕ → ℕ
size_by T S time next s = length (written_by T S time next s)
