-- Refusal 3, "a reference is wrong", rule by rule. "Each id must exist; frames are counted by their kind byte, also in a table with other faults."
-- "Its own" and "of one element" compare element numbers; a field that is not used is no reference.
use Rattle.std.specs.Prelude.{ℕ, ◌+◌, Bool, not, eqb, leb}
use Rattle.rules_walks.specs.Pick.{pick, both, either}
use Rattle.rules_walks.specs.All.{all_to}
use Rattle.rules_tables.specs.Kind.{element, event_input, event_output, variable, association, chart_state, transition, action, step, event_connection, data_connection, none, basic, interface, input, output, of_input}
use Rattle.rules_tables.specs.Frame.{Table, kind_at, flag_at, field_at}
use Rattle.rules_tables.specs.Place.{count_to, count_of, exists, owner_of, flag_of, owned_by, sort_is}
use Rattle.rules_tables.specs.Form.{used_of}

-- 01. "A basic element's initial state is its own."
unfoldable pub initial_state : Table → (f : ℕ) → Bool
initial_state T f = either (not (eqb (flag_at T f) basic)) (owned_by T chart_state (field_at T f 1) (count_to T element f))

-- 02, 03, 04. Events and variables belong to an element.
unfoldable pub of_element : Table → (f : ℕ) → Bool
of_element T f = exists T element (field_at T f 0)

-- 05. An event of kind k and a variable of role g, of one element
unfoldable pub joins : Table → (f k g : ℕ) → Bool
joins T f k g =
    both (exists T k (field_at T f 0))
    (both (owned_by T variable (field_at T f 1) (owner_of T k (field_at T f 0)))
    (eqb (flag_of T variable (field_at T f 1)) g))

-- "An association joins an event input and input variable, or event output and output variable, of one element; output associations of an interface are wrong."
unfoldable pub associates : Table → (f : ℕ) → Bool
associates T f =
    pick (eqb (flag_at T f) of_input) (joins T f event_input input)
    (both (joins T f event_output output) (not (sort_is T (owner_of T event_output (field_at T f 0)) interface)))

-- 06. "States belong to basic elements."
unfoldable pub of_basic : Table → (f : ℕ) → Bool
of_basic T f = sort_is T (field_at T f 0) basic

-- an id that may be none, else is of element el
unfoldable pub maybe_owned : Table → (k id el : ℕ) → Bool
maybe_owned T k id el = either (eqb id none) (owned_by T k id el)

-- field j, if the frame uses it, is a variable of element el
unfoldable pub uses_own : Table → (f j el : ℕ) → Bool
uses_own T f j el = either (leb (used_of (kind_at T f) (flag_at T f)) j) (owned_by T variable (field_at T f j) el)

-- 07. "Both states, the event and the variables of a transition are of one element."
unfoldable pub transits : Table → (f : ℕ) → Bool
transits T f =
    both (exists T chart_state (field_at T f 0))
    (both (owned_by T chart_state (field_at T f 1) (owner_of T chart_state (field_at T f 0)))
    (both (maybe_owned T event_input (field_at T f 2) (owner_of T chart_state (field_at T f 0)))
    (both (uses_own T f 3 (owner_of T chart_state (field_at T f 0))) (uses_own T f 4 (owner_of T chart_state (field_at T f 0))))))

-- 08. the result variable of the i-th step from step b on is of element el
unfoldable pub result_of : Table → (b el i : ℕ) → Bool
result_of T b el i = owned_by T variable (owner_of T step (b + i)) el

-- "An action's steps, if any, all exist, each result variable exists and is of the state's element"
unfoldable pub steps_of : Table → (b n el : ℕ) → Bool
steps_of T b n el = either (eqb n 0) (both (leb (b + n) (count_of T step)) (all_to (result_of T b el) n))

-- ".. and the output event is too."
unfoldable pub acts : Table → (f : ℕ) → Bool
acts T f =
    both (exists T chart_state (field_at T f 0))
    (both (steps_of T (field_at T f 1) (field_at T f 2) (owner_of T chart_state (field_at T f 0)))
    (maybe_owned T event_output (field_at T f 3) (owner_of T chart_state (field_at T f 0))))

-- 09. "A step's variables are of one basic element, and its result is not an input."
unfoldable pub steps_to : Table → (f : ℕ) → Bool
steps_to T f =
    both (exists T variable (field_at T f 0))
    (both (not (eqb (flag_of T variable (field_at T f 0)) input))
    (both (sort_is T (owner_of T variable (field_at T f 0)) basic)
    (both (uses_own T f 1 (owner_of T variable (field_at T f 0))) (uses_own T f 2 (owner_of T variable (field_at T f 0))))))

-- 0A. an event output and an event input
unfoldable pub connects_events : Table → (f : ℕ) → Bool
connects_events T f = both (exists T event_output (field_at T f 0)) (exists T event_input (field_at T f 1))

-- a variable of this role
unfoldable pub variable_with : Table → (v g : ℕ) → Bool
variable_with T v g = both (exists T variable v) (eqb (flag_of T variable v) g)

-- 0B. "A data connection runs from an output to an input variable."
unfoldable pub connects_data : Table → (f : ℕ) → Bool
connects_data T f = both (variable_with T (field_at T f 0) output) (variable_with T (field_at T f 1) input)

-- the references of frame f, were it of kind k
unfoldable pub refers_as : (k : ℕ) → Table → (f : ℕ) → Bool
refers_as k T f =
    pick (eqb k element) (initial_state T f)
    (pick (eqb k association) (associates T f)
    (pick (eqb k chart_state) (of_basic T f)
    (pick (eqb k transition) (transits T f)
    (pick (eqb k action) (acts T f)
    (pick (eqb k step) (steps_to T f)
    (pick (eqb k event_connection) (connects_events T f)
    (pick (eqb k data_connection) (connects_data T f) (of_element T f))))))))

unfoldable pub refers_ok : Table → (f : ℕ) → Bool
refers_ok T f = refers_as (kind_at T f) T f
