-- Which variables belong to an element, and which to the elements before it: so much room their lines take.
use Rattle.std.specs.Prelude.{ℕ, Bool, eqb, ltb}
use Rattle.rules_walks.specs.Count.{count_if}
use Rattle.rules_tables.specs.Frame.{Table}
use Rattle.rules_tables.specs.declared.Shape.{Shape}
use Rattle.rules_tables.specs.Ids.{variables}
use Rattle.rules_moves.specs.Partner.{variable_owner}

-- variable v belongs to element el
unfoldable pub owned : Table → Shape → (el v : ℕ) → Bool
owned T S el v = eqb (variable_owner T S v) el

-- it belongs to an element before el
unfoldable pub owned_before : Table → Shape → (el v : ℕ) → Bool
owned_before T S el v = ltb (variable_owner T S v) el

-- how many do
unfoldable pub owned_count : Table → Shape → (el : ℕ) → ℕ
owned_count T S el = count_if (owned T S el) (variables S)

unfoldable pub before_count : Table → Shape → (el : ℕ) → ℕ
before_count T S el = count_if (owned_before T S el) (variables S)
