-- Refusal 4, "a network rule is broken", rule by rule. "Earlier" is a lower frame of the kind.
use Rattle.std.specs.Prelude.{ℕ, Bool}
use Rattle.rules_walks.specs.Pick.{both}
use Rattle.rules_tables.specs.Kind.{element, event_input, association, event_connection, data_connection}
use Rattle.rules_tables.specs.Fresh.{fresh, eight_at_most}
use Rattle.rules_tables.specs.Shapes.{shape_ok}
use Rattle.rules_tables.specs.Frame.{Table}

-- "On an element: a priority an earlier element has; or a wrong shape. On an event input: a local priority an earlier input of the element has.
-- On 05 and 0A: a pair repeated (under the same flag); on 05 also a ninth variable for one event. On 0B: a destination already connected."
unfoldable pub rules_ok : Table → (f : ℕ) → Bool
rules_ok T f =
    both (fresh element T f)
    (both (shape_ok T f)
    (both (fresh event_input T f)
    (both (fresh association T f)
    (both (eight_at_most T f)
    (both (fresh event_connection T f) (fresh data_connection T f))))))
