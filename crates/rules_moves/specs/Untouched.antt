-- A variable to which the event brings nothing.
use Rattle.std.specs.Prelude.{◌≡◌, List, true, ℕ, ◌<◌}
use Rattle.rules_tables.specs.Frame.{field_at}
use Rattle.rules_tables.specs.declared.Shape.{Shape}
use Rattle.rules_tables.specs.Ids.{links, link_frame}
use Rattle.rules_moves.specs.declared.Voice.{Voice}
use Rattle.rules_moves.specs.Carry.{carries}

-- no data connection runs to variable d from a variable that the event carries
abbrev pub Unfed : List ℕ → Shape → Voice → ℕ → Type 0
Unfed T S w d = (j : ℕ) → j < links S → field_at T (link_frame S j) 1 ≡ d → carries T S w (field_at T (link_frame S j) 0) ≡ true → ⊥
