-- What the search for the next waiting event looks at.
use Rattle.std.specs.Prelude.{Bool, not, ℕ, eqb}
use Rattle.rules_tables.specs.declared.Shape.{Shape}
use Rattle.rules_store.specs.Word.{Store, waiting}

-- event input i waits
unfoldable pub waits_at : Shape → Store → (i : ℕ) → Bool
waits_at S s i = not (eqb (waiting S s i) 0)
