-- What the reader needs of a frame: that its numbers fit the line, and that the table knows what it names.
use Rattle.std.specs.Prelude.{◌<◌, ◌≡◌, true}
use Rattle.rules_tables.specs.Frame.{Table}
use Rattle.rules_tables.specs.declared.Shape.{Shape}
use Rattle.rules_traces.specs.declared.Entry.{Entry}
use Rattle.rules_traces.specs.Reader.{known_entry}

-- its numbers are of a byte, two halves and a word
pub record Fits (e : Entry) : Type 0 where
  pub kind : e.kind < 256
  pub block : e.block < 65536
  pub id : e.id < 65536
  pub value : e.value < 4294967296

-- and it names what the table has
pub record Right (T : Table) (S : Shape) (e : Entry) : Type 0 where
  pub fits : Fits e
  pub known : known_entry T S e ≡ true
