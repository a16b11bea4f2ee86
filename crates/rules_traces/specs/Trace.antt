-- The frames of a move, from the store before it: "a move's frames stand by kind, then id".
use Rattle.std.specs.Prelude.{ℕ, List, [], ◌∷◌, ◌++◌, eqb}
use Rattle.rules_walks.specs.Choose.{choose}
use Rattle.rules_walks.specs.First.{Sought, one, missing}
use Rattle.rules_tables.specs.Kind.{basic, input, output, internal}
use Rattle.rules_tables.specs.Frame.{Table, flag_at}
use Rattle.rules_tables.specs.declared.Shape.{Shape}
use Rattle.rules_store.specs.declared.Running.{Running}
use Rattle.rules_tables.specs.Ids.{elements, variables, variable_frame}
use Rattle.rules_store.specs.Word.{Store, chart_state, value, running_of}
use Rattle.rules_moves.specs.Partner.{input_owner, output_owner, variable_owner}
use Rattle.rules_moves.specs.Chart.{element_of}
use Rattle.rules_moves.specs.Take.{fired_by}
use Rattle.rules_moves.specs.Act.{event_of}
use Rattle.rules_moves.specs.declared.Next.{Next}
use Rattle.rules_moves.specs.declared.Next.TheVariants.{Take, Change, Idle, Step, End, Back, Nothing}
use Rattle.rules_moves.specs.Next.{next_of, move_by}
use Rattle.rules_traces.specs.declared.Entry.{Entry}
use Rattle.rules_traces.specs.Gather.{gather}
use Rattle.rules_traces.specs.Kinds.{chart_kind, internal_kind, input_kind, output_kind, started_kind, finished_kind, selected_kind, emitted_kind, enabled_kind, action_kind, step_kind}
use Rattle.rules_traces.specs.Entry.{entry}

-- ---- "Kinds 0 to 3, 9 and 10 stand only where the value differs from before": s is the store before the whole move, s' the one after it
unfoldable pub differing : (before : ℕ) → Entry → List Entry
differing before e = choose (eqb before e.value) [] (e ∷ [])

-- 0: "chart state", of element el
unfoldable pub chart_entry : Store → Store → (el : ℕ) → List Entry
chart_entry s s' el = differing (chart_state s el) (entry chart_kind el 0 (chart_state s' el))

-- 1, 2, 3: "internal, input, output value", of variable v where it has this role
unfoldable pub value_entry : Table → Shape → (role kind : ℕ) → Store → Store → (v : ℕ) → List Entry
value_entry T S role kind s s' v =
    choose (eqb (flag_at T (variable_frame S v)) role) (differing (value S s v) (entry kind (variable_owner T S v) v (value S s' v))) []

-- kinds 0 to 3, each by id
unfoldable pub changes : Table → Shape → Store → Store → List Entry
changes T S s s' =
    gather (chart_entry s s') (elements S)
    ++ gather (value_entry T S internal internal_kind s s') (variables S)
    ++ gather (value_entry T S input input_kind s s') (variables S)
    ++ gather (value_entry T S output output_kind s s') (variables S)

-- 9: "action number"; 10: "step number": of the running element, by the running block before and after
unfoldable pub number_changes : (el : ℕ) → Running → Running → List Entry
number_changes el r r' =
    differing r.action (entry action_kind el 0 r'.action) ++ differing r.step (entry step_kind el 0 r'.step)

-- ---- kinds 4 to 8, whose value is 1
-- 4: "block started", "when an event is taken"
abbrev pub started_entry : (el : ℕ) → List Entry
started_entry el = entry started_kind el 0 1 ∷ []

-- 5: "finished", "when its block ends"
abbrev pub finished_entry : (el : ℕ) → List Entry
finished_entry el = entry finished_kind el 0 1 ∷ []

-- "(at once without a chart)"
unfoldable pub finished_at_once : Table → (el : ℕ) → List Entry
finished_at_once T el = choose (eqb (flag_at T el) basic) [] (finished_entry el)

-- 6: "event selected", "when an event is taken"
abbrev pub selected_entry : (el i : ℕ) → List Entry
selected_entry el i = entry selected_kind el i 1 ∷ []

-- 7: "event emitted", "when fired"
unfoldable pub emitted_entry : Table → Shape → Sought → List Entry
emitted_entry T S (one o) = entry emitted_kind (output_owner T S o) o 1 ∷ []
emitted_entry T S missing = []

-- 8: "transition enabled", "when a transition is made"
abbrev pub enabled_entry : (el j : ℕ) → List Entry
enabled_entry el j = entry enabled_kind el j 1 ∷ []

-- what happens in the move, by what comes next
unfoldable pub events : Table → Shape → Next → Store → List Entry
events T S (Take i) s =
    started_entry (input_owner T S i) ++ finished_at_once T (input_owner T S i) ++ selected_entry (input_owner T S i) i ++ emitted_entry T S (fired_by T S i)
events T S (Change j) s = enabled_entry (element_of s) j
events T S Idle s = finished_entry (element_of s)
events T S (Step j) s = []
events T S (End j) s = emitted_entry T S (event_of T S j)
events T S Back s = []
events T S Nothing s = []

-- ---- all frames of the move: the store after it is s'
-- kinds 0 to 8
unfoldable pub first_entries : Table → Shape → Next → Store → Store → List Entry
first_entries T S next s s' = changes T S s s' ++ events T S next s

-- and 9, 10
unfoldable pub entries_between : Table → Shape → Next → Store → Store → List Entry
entries_between T S next s s' = first_entries T S next s s' ++ number_changes (element_of s) (running_of s) (running_of s')

unfoldable pub entries_by : Table → Shape → (time : ℕ) → Next → Store → List Entry
entries_by T S time next s = entries_between T S next s (move_by T S time next s)

unfoldable pub entries_of : Table → Shape → (time : ℕ) → Store → List Entry
entries_of T S time s = entries_by T S time (next_of T S s) s
