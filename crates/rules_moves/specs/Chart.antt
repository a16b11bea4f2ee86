-- The state chart: what moves 2 and 3 look for and leave.
use Rattle.std.specs.Prelude.{ℕ, ◌+◌, ◌-◌, List, Bool, not, eqb}
use Rattle.rules_walks.specs.Pick.{both, either}
use Rattle.rules_walks.specs.First.{Sought, first_below}
use Rattle.rules_tables.specs.Kind.{none}
use Rattle.rules_tables.specs.Frame.{field_at}
use Rattle.rules_tables.specs.declared.Shape.{Shape}
use Rattle.rules_store.specs.declared.Running.{Running}
use Rattle.rules_tables.specs.Ids.{transitions, transition_frame}
use Rattle.rules_store.specs.Running.{rest, entered}
use Rattle.rules_store.specs.Word.{running_element, put_owner, put_running, chart_state, put_chart_state}
use Rattle.rules_tables.specs.Actions.{action_number}
use Rattle.rules_moves.specs.Guard.{guard_at, signed_value, holds}

-- "whose event is none, or is the current event while live"; the store has the current event plus 1
unfoldable pub heard : ℕ → ℕ → ℕ → Bool
heard c event live = either (eqb c none) (both (not (eqb live 0)) (eqb (c + 1) event))

-- "and whose guard holds"
unfoldable pub guard_holds : List ℕ → Shape → List ℕ → ℕ → Bool
guard_holds T S s j = holds (signed_value S s) (guard_at T (transition_frame S j))

-- transition j leaves state q, hears the event and its guard holds
unfoldable pub enabled : List ℕ → Shape → List ℕ → ℕ → ℕ → ℕ → ℕ → Bool
enabled T S s q event live j =
    both (eqb (field_at T (transition_frame S j) 0) q)
    (both (heard (field_at T (transition_frame S j) 2) event live) (guard_holds T S s j))

-- "the first transition in table order from the present state"
unfoldable pub transition_of : List ℕ → Shape → List ℕ → ℕ → ℕ → ℕ → Sought
transition_of T S s q event live = first_below (enabled T S s q event live) (transitions S)

-- "State changes, live ends, mode 2, step 0"
unfoldable pub change : List ℕ → Shape → ℕ → Running → ℕ → List ℕ → List ℕ
change T S el r j s =
    put_running (entered (action_number T S (field_at T (transition_frame S j) 1) 1) r) (put_chart_state el (field_at T (transition_frame S j) 1) s)

-- "Mode 1, no such transition: idle."
unfoldable pub go_idle : List ℕ → List ℕ
go_idle s = put_running rest (put_owner 0 0 s)

-- the running element, and its present state
abbrev pub element_of : List ℕ → ℕ
element_of s = running_element s - 1

abbrev pub state_of : List ℕ → ℕ
state_of s = chart_state s (element_of s)
