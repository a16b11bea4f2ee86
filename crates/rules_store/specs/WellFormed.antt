-- "Well formed", clause by clause: refusal 6 is given exactly when one of these is broken.
use Rattle.std.specs.Prelude.{ℕ, ◌-◌, Bool, eqb, ltb, leb}
use Rattle.rules_walks.specs.Pick.{pick, both, either}
use Rattle.rules_walks.specs.All.{all_to}
use Rattle.rules_walks.specs.First.{Sought, one, missing}
use Rattle.rules_tables.specs.Kind.{basic, delay, input}
use Rattle.rules_tables.specs.Frame.{Table, flag_at, field_at}
use Rattle.rules_tables.specs.declared.Shape.{Shape}
use Rattle.rules_store.specs.declared.NextDue.{NextDue}
use Rattle.rules_store.specs.declared.Running.{Running}
use Rattle.rules_tables.specs.Ids.{elements, inputs, variables, states, input_frame, variable_frame, state_frame, action_frame}
use Rattle.rules_store.specs.Running.{idle, charts, acts}
use Rattle.rules_store.specs.Word.{Store, largest_time, largest_due, now_of, running_element, current_event, running_of, next_due, spares, spare_word, chart_state, due_flag, due_time, waiting, birth_of, last_update, buffer}
use Rattle.rules_store.specs.Due.{earliest}
use Rattle.rules_tables.specs.Actions.{action_of}

-- "Words 9 to 15 zero.", but for 9 and 10, which tell the next due time, and 11, which counts: any word is well formed there, as in word 8
unfoldable pub spare_ok : Store → (j : ℕ) → Bool
spare_ok s j = eqb (spare_word s j) 0

-- document 02, A5: "a store in which it is wrong is not well formed". It is right where it is the answer found by looking
unfoldable pub is_next : (stored found : NextDue) → Bool
is_next stored found = both (eqb stored.due found.due) (eqb stored.time found.time)

unfoldable pub next_ok : Shape → Store → Bool
next_ok S s = is_next (next_due s) (earliest s (elements S))

-- "idle means words 1 to 7 zero"; r is the running block
unfoldable pub rest_ok : Running → Store → Bool
rest_ok r s =
    both (eqb (running_element s) 0)
    (both (eqb (current_event s) 0)
    (both (eqb r.birth 0) (both (eqb r.live 0) (both (eqb r.action 0) (eqb r.step 0)))))

-- "the element basic, the event its own": both stand in the store plus 1
unfoldable pub owner_ok : Table → Shape → (e i : ℕ) → Bool
owner_ok T S e i =
    both (leb 1 e)
    (both (leb e (elements S))
    (both (eqb (flag_at T (e - 1)) basic)
    (both (leb 1 i) (both (leb i (inputs S)) (eqb (field_at T (input_frame S (i - 1)) 0) (e - 1))))))

-- "action at most the number of the state's actions, step at most that action's steps (0 for action 0)"
unfoldable pub step_ok : Table → Shape → Running → Sought → Bool
step_ok T S r (one j) = leb r.step (field_at T (action_frame S j) 2)
step_ok T S r missing = both (eqb r.action 0) (eqb r.step 0)

-- "mode 1 has action and step 0; mode 2 has live 0 .."; q is the element's chart state
unfoldable pub mode_ok : Table → Shape → Running → (q : ℕ) → Bool
mode_ok T S r q =
    pick (eqb r.mode charts) (both (leb r.live 1) (both (eqb r.action 0) (eqb r.step 0)))
    (both (eqb r.mode acts) (both (eqb r.live 0) (step_ok T S r (action_of T S q r.action))))

unfoldable pub running_ok : Table → Shape → Running → Store → Bool
running_ok T S r s =
    pick (eqb r.mode idle) (rest_ok r s)
    (both (owner_ok T S (running_element s) (current_event s))
    (both (leb r.birth (now_of s)) (mode_ok T S r (chart_state s (running_element s - 1)))))

-- "A basic element's chart state is its own", else 0
unfoldable pub chart_ok : Table → Shape → Store → (el : ℕ) → Bool
chart_ok T S s el =
    pick (eqb (flag_at T el) basic)
    (both (ltb (chart_state s el) (states S)) (eqb (field_at T (state_frame S (chart_state s el)) 0) el))
    (eqb (chart_state s el) 0)

-- "A due flag is only on a delay, due from now to 4,294,967,294, else zeros."
unfoldable pub due_ok : Table → Store → (el : ℕ) → Bool
due_ok T s el =
    pick (eqb (due_flag s el) 0) (eqb (due_time s el) 0)
    (both (eqb (due_flag s el) 1)
    (both (eqb (flag_at T el) delay) (both (leb (now_of s) (due_time s el)) (leb (due_time s el) largest_due))))

unfoldable pub element_ok : Table → Shape → Store → (el : ℕ) → Bool
element_ok T S s el = both (chart_ok T S s el) (due_ok T s el)

-- "A waiting event has birth ≤ last update ≤ now, others zeros." "Flags are 0 or 1."
unfoldable pub input_ok : Shape → Store → (i : ℕ) → Bool
input_ok S s i =
    pick (eqb (waiting S s i) 0) (both (eqb (birth_of S s i) 0) (eqb (last_update S s i) 0))
    (both (eqb (waiting S s i) 1) (both (leb (birth_of S s i) (last_update S s i)) (leb (last_update S s i) (now_of s))))

-- "buffer (0 unless an input)"
unfoldable pub variable_ok : Table → Shape → Store → (v : ℕ) → Bool
variable_ok T S s v = either (eqb (flag_at T (variable_frame S v)) input) (eqb (buffer S s v) 0)

-- elements, event inputs and variables
unfoldable pub parts_ok : Table → Shape → Store → Bool
parts_ok T S s =
    both (all_to (element_ok T S s) (elements S))
    (both (all_to (input_ok S s) (inputs S)) (all_to (variable_ok T S s) (variables S)))

unfoldable pub well_formed : Table → Shape → Store → Bool
well_formed T S s =
    both (leb (now_of s) largest_time)
    (both (all_to (spare_ok s) spares)
    (both (next_ok S s)
    (both (running_ok T S (running_of s) s) (parts_ok T S s))))
