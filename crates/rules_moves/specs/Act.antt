-- Moves 4 and 5: a step, and the end of an action.
use Rattle.std.specs.Prelude.{ℕ, ◌+◌, ◌-◌, List, eqb, pos}
use Rattle.rules_walks.specs.Pick.{pick}
use Rattle.rules_walks.specs.Choose.{choose}
use Rattle.rules_walks.specs.First.{Sought, one, missing}
use Rattle.rules_numbers.specs.Word.{signed, word}
use Rattle.rules_numbers.specs.declared.Outcome.{Outcome}
use Rattle.rules_numbers.specs.Truth.{outcome}
use Rattle.rules_tables.specs.Kind.{none}
use Rattle.rules_tables.specs.Frame.{flag_at, field_at}
use Rattle.rules_tables.specs.declared.Shape.{Shape}
use Rattle.rules_store.specs.declared.Running.{Running}
use Rattle.rules_tables.specs.Ids.{action_frame, step_frame}
use Rattle.rules_store.specs.Running.{entered, stepped}
use Rattle.rules_store.specs.Word.{counted, put_running, untrue, put_untrue, value, put_value}
use Rattle.rules_moves.specs.Take.{fire_found}
use Rattle.rules_tables.specs.Actions.{action_number}

-- what the operation of the step at frame f tells; "age (now less the birth of the current event)"
unfoldable pub step_outcome : List ℕ → Shape → ℕ → ℕ → List ℕ → Outcome
step_outcome T S f age s = outcome (flag_at T f) (signed (value S s (field_at T f 1))) (signed (value S s (field_at T f 2))) (pos age)

-- its result goes to its variable
unfoldable pub result_put : List ℕ → Shape → ℕ → ℕ → List ℕ → List ℕ
result_put T S f age s = put_value S (field_at T f 0) (word (step_outcome T S f age s).result) s

-- 1 where that result is not the true one, else 0
unfoldable pub untrue_step : List ℕ → Shape → ℕ → ℕ → List ℕ → ℕ
untrue_step T S f age s = pick (step_outcome T S f age s).is_true 0 1

-- "Word 11 counts untrue steps since load and stops at 4,294,967,295."
unfoldable pub count_untrue : ℕ → List ℕ → List ℕ
count_untrue u s = put_untrue (counted u (untrue s)) s

-- the step at frame f
unfoldable pub one_step : List ℕ → Shape → ℕ → ℕ → List ℕ → List ℕ
one_step T S f age s = count_untrue (untrue_step T S f age s) (result_put T S f age s)

-- 4. "Mode 2, steps left: one step": step j
unfoldable pub step_move : List ℕ → Shape → ℕ → Running → ℕ → List ℕ → List ℕ
step_move T S time r j s = put_running (stepped r) (one_step T S (step_frame S j) (time - r.birth) s)

-- the event of action j, if any: "d event output or FFFF"
unfoldable pub event_of : List ℕ → Shape → ℕ → Sought
event_of T S j = choose (eqb (field_at T (action_frame S j) 3) none) missing (one (field_at T (action_frame S j) 3))

-- 5. "Mode 2, action's steps done: its event, if any, is fired with the current birth; next action, or 0 after the last, step 0": action j, in state q
unfoldable pub end_move : List ℕ → Shape → ℕ → ℕ → Running → ℕ → List ℕ → List ℕ
end_move T S time q r j s = put_running (entered (action_number T S q (r.action + 1)) r) (fire_found T S (event_of T S j) r.birth time s)
