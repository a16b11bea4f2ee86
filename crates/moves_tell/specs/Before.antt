-- The frames of a move as code finds them: from the store before it alone.
use Rattle.std.specs.Prelude.{ℕ, ◌-◌, List, [], ◌∷◌, ◌++◌, eqb}
use Rattle.rules_walks.specs.Choose.{choose}
use Rattle.rules_walks.specs.First.{Sought, one, missing}
use Rattle.rules_numbers.specs.Word.{word}
use Rattle.rules_tables.specs.Kind.{interface, input, output, internal}
use Rattle.rules_tables.specs.Frame.{Table, flag_at, field_at}
use Rattle.rules_tables.specs.declared.Shape.{Shape}
use Rattle.rules_tables.specs.Ids.{first_variable, variables, variable_frame, transition_frame, action_frame, step_frame}
use Rattle.rules_tables.specs.Owned.{rank, nth}
use Rattle.rules_store.specs.Word.{Store, chart_state, value, buffer, running_of}
use Rattle.rules_moves.specs.Partner.{input_owner, variable_owner}
use Rattle.rules_moves.specs.Associated.{associated}
use Rattle.rules_moves.specs.Take.{fired_by}
use Rattle.rules_moves.specs.Chart.{element_of}
use Rattle.rules_moves.specs.Act.{step_outcome}
use Rattle.rules_moves.specs.declared.Next.{Next}
use Rattle.rules_moves.specs.declared.Next.TheVariants.{Take, Change, Idle, Step, End, Back, Nothing}
use Rattle.rules_traces.specs.declared.Entry.{Entry}
use Rattle.rules_traces.specs.Gather.{gather}
use Rattle.rules_traces.specs.Kinds.{chart_kind, internal_kind, input_kind, output_kind, action_kind, step_kind}
use Rattle.rules_traces.specs.Entry.{entry}
use Rattle.rules_traces.specs.Trace.{differing, started_entry, finished_at_once, selected_entry, emitted_entry}

-- ---- taking event input i
-- variable v, if it is associated with the event: it gets value from buffer
unfoldable pub sampled_entry : Table → Shape → (i : ℕ) → Store → (v : ℕ) → List Entry
sampled_entry T S i s v = choose (associated T S i v) (differing (value S s v) (entry input_kind (variable_owner T S v) v (buffer S s v))) []

-- the input whose partner output variable u is
unfoldable pub source_of : Table → Shape → (u : ℕ) → Sought
source_of T S u = nth T (first_variable S) (variables S) input (variable_owner T S u) (rank T (first_variable S) output (variable_owner T S u) u)

-- output u gets what its source v got, if v is associated with the event
unfoldable pub passed_from : Table → Shape → (i : ℕ) → Store → (u v : ℕ) → List Entry
passed_from T S i s u v = choose (associated T S i v) (differing (value S s u) (entry output_kind (variable_owner T S u) u (buffer S s v))) []

unfoldable pub passed_by : Table → Shape → (i : ℕ) → Store → (u : ℕ) → Sought → List Entry
passed_by T S i s u (one v) = passed_from T S i s u v
passed_by T S i s u missing = []

unfoldable pub passed_entry : Table → Shape → (i : ℕ) → Store → (u : ℕ) → List Entry
passed_entry T S i s u = choose (eqb (flag_at T (variable_frame S u)) output) (passed_by T S i s u (source_of T S u)) []

unfoldable pub passed_entries : Table → Shape → (i : ℕ) → Store → List Entry
passed_entries T S i s = gather (passed_entry T S i s) (variables S)

unfoldable pub take_entries : Table → Shape → (i : ℕ) → Store → List Entry
take_entries T S i s =
    gather (sampled_entry T S i s) (variables S) ++ choose (eqb (flag_at T (input_owner T S i)) interface) (passed_entries T S i s) []

unfoldable pub take_events : Table → Shape → (i : ℕ) → List Entry
take_events T S i =
    started_entry (input_owner T S i) ++ finished_at_once T (input_owner T S i) ++ selected_entry (input_owner T S i) i ++ emitted_entry T S (fired_by T S i)

-- ---- making transition j
unfoldable pub change_entries : Table → Shape → (j : ℕ) → Store → List Entry
change_entries T S j s = differing (chart_state s (element_of s)) (entry chart_kind (element_of s) 0 (field_at T (transition_frame S j) 1))

-- ---- making the step at frame f
-- the kind of a result: it is no input
unfoldable pub result_kind : (role : ℕ) → ℕ
result_kind role = choose (eqb role internal) internal_kind output_kind

unfoldable pub result_of : Table → Shape → (f age : ℕ) → Store → ℕ
result_of T S f age s = word (step_outcome T S f age s).result

-- variable v gets x
unfoldable pub result_entry : Table → Shape → (v x : ℕ) → Store → List Entry
result_entry T S v x s = differing (value S s v) (entry (result_kind (flag_at T (variable_frame S v))) (variable_owner T S v) v x)

unfoldable pub step_entries : Table → Shape → (f age : ℕ) → Store → List Entry
step_entries T S f age s = result_entry T S (field_at T f 0) (result_of T S f age s) s

-- ---- kinds 0 to 3 of each move, and then what happens in it
unfoldable pub changes_before : Table → Shape → (time : ℕ) → Next → Store → List Entry
changes_before T S time (Take i) s = take_entries T S i s
changes_before T S time (Change j) s = change_entries T S j s
changes_before T S time Idle s = []
changes_before T S time (Step j) s = step_entries T S (step_frame S j) (time - (running_of s).birth) s
changes_before T S time (End j) s = []
changes_before T S time Back s = []
changes_before T S time Nothing s = []

-- ---- kinds 9 and 10 of each move, from the store after it: a transition leads from action 0 to the first of its state, if any, a step is one more, and the end of
-- action j, whose steps are all done, leads to another action or 0 and to step 0
unfoldable pub end_numbers : Table → Shape → (j : ℕ) → (after : Store) → List Entry
end_numbers T S j s' =
    (entry action_kind (element_of s') 0 (running_of s').action ∷ []) ++ differing (field_at T (action_frame S j) 2) (entry step_kind (element_of s') 0 0)

unfoldable pub numbers_by : Table → Shape → Next → (after : Store) → List Entry
numbers_by T S (Take i) s' = []
numbers_by T S (Change j) s' = differing 0 (entry action_kind (element_of s') 0 (running_of s').action)
numbers_by T S Idle s' = []
numbers_by T S (Step j) s' = entry step_kind (element_of s') 0 (running_of s').step ∷ []
numbers_by T S (End j) s' = end_numbers T S j s'
numbers_by T S Back s' = []
numbers_by T S Nothing s' = []
