-- Which parts of a table are connected: an event output and event inputs, a source and a destination.
use Rattle.std.specs.Prelude.{ℕ, Bool, eqb}
use Rattle.rules_walks.specs.Pick.{both}
use Rattle.rules_walks.specs.All.{any_to}
use Rattle.rules_tables.specs.Frame.{Table, field_at}
use Rattle.rules_tables.specs.declared.Shape.{Shape}
use Rattle.rules_tables.specs.Ids.{connections, connection_frame}

-- event connection j runs from event output o to event input i
unfoldable pub runs : Table → Shape → (o i j : ℕ) → Bool
runs T S o i j = both (eqb (field_at T (connection_frame S j) 0) o) (eqb (field_at T (connection_frame S j) 1) i)

-- event output o is connected to event input i
abbrev pub connected : Table → Shape → (o i : ℕ) → Bool
connected T S o i = any_to (runs T S o i) (connections S)
