-- The copies of one variable, as code makes them: variable by variable.
use Rattle.std.specs.Prelude.{ℕ, eqb}
use Rattle.rules_walks.specs.Walk.{up_to}
use Rattle.rules_tables.specs.Frame.{Table}
use Rattle.rules_tables.specs.declared.Shape.{Shape}
use Rattle.rules_tables.specs.Ids.{links}
use Rattle.rules_tables.specs.Lawful.{source, destination}
use Rattle.rules_store.specs.Word.{Store, value, put_buffer}
use Rattle.rules_moves.specs.Fire.{copy_if}

-- data connection j, whatever its source
abbrev pub copied : Table → Shape → (j : ℕ) → Store → Store
copied T S j s = put_buffer S (destination T S j) (value S s (source T S j)) s

-- the data connections from variable v
abbrev pub copies_from : Table → Shape → (v : ℕ) → Store → Store
copies_from T S v s = up_to (copy_if T S (eqb v)) (links S) s
