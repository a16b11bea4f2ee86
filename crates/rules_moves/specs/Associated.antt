-- Which variables are associated with an event input.
use Rattle.std.specs.Prelude.{ℕ, List, Bool, eqb}
use Rattle.rules_walks.specs.Pick.{both}
use Rattle.rules_walks.specs.All.{any_to}
use Rattle.rules_tables.specs.Kind.{of_input}
use Rattle.rules_tables.specs.Frame.{field_at}
use Rattle.rules_tables.specs.declared.Shape.{Shape}
use Rattle.rules_tables.specs.Ids.{associations, association_frame}
use Rattle.rules_moves.specs.Carry.{voice, speaks}

-- association j joins event input i and variable v
unfoldable pub joins_variable : List ℕ → Shape → ℕ → ℕ → ℕ → Bool
joins_variable T S i v j = both (speaks T S (voice of_input i) j) (eqb (field_at T (association_frame S j) 1) v)

-- event input i is associated with variable v
abbrev pub associated : List ℕ → Shape → ℕ → ℕ → Bool
associated T S i v = any_to (joins_variable T S i v) (associations S)
