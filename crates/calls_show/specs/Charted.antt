-- What the reader of a trace knows of a table beside the bounds of `Good`.
use Rattle.std.specs.Prelude.{ℕ, ◌<◌}
use Rattle.rules_tables.specs.Frame.{Table, field_at}
use Rattle.rules_tables.specs.declared.Shape.{Shape}
use Rattle.rules_tables.specs.Ids.{states, transitions, transition_frame}
use Rattle.rules_tables.specs.Good.{Good}

pub record Charted (T : Table) (S : Shape) : Type 0 where
  pub is_good : Good T S
  -- "Both states .. of a transition" are there
  pub transition_state : (j : ℕ) → j < transitions S → field_at T (transition_frame S j) 0 < states S
