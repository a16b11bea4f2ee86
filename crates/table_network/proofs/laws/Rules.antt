-- The passes one after another are the network rules.
use Rattle.std.specs.Prelude.{◌≡◌, List, ℕ}
use Rattle.std.proofs.Common.{◌∙◌}
use Rattle.rules_walks.specs.Held.{held_to}
use Rattle.rules_walks.proofs.laws.Held.{held_both}
use Rattle.rules_tables.specs.Kind.{element, event_input, association, event_connection, data_connection}
use Rattle.rules_tables.specs.Fresh.{fresh, eight_at_most}
use Rattle.rules_tables.specs.Shapes.{shape_ok}
use Rattle.rules_tables.specs.Network.{rules_ok}

pub rules_chain : (T : List ℕ) (n : ℕ)
    → held_to (fresh data_connection T)
    (held_to (fresh event_connection T)
    (held_to (eight_at_most T)
    (held_to (fresh association T)
    (held_to (fresh event_input T) (held_to (shape_ok T) (held_to (fresh element T) n))))))
    ≡ held_to (rules_ok T) n
unfolding rules_ok
rules_chain T n =
    held_both (fresh event_connection T) (fresh data_connection T) _
    ∙ held_both (eight_at_most T) _ _
    ∙ held_both (fresh association T) _ _
    ∙ held_both (fresh event_input T) _ _
    ∙ held_both (shape_ok T) _ _
    ∙ held_both (fresh element T) _ n
