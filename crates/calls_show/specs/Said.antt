-- What code answers for a line.
use Rattle.std.specs.Prelude.{◌≡◌, List, ℕ, ◌<◌, Option, Some, None}
use Rattle.rules_walks.specs.Pick.{pick}
use Rattle.rules_tables.specs.Frame.{Table}
use Rattle.rules_tables.specs.declared.Shape.{Shape}
use Rattle.rules_traces.specs.Reader.{readable, entry_at}
use Rattle.rules_traces.specs.declared.Entry.{Entry}

-- its entry where it can be read
abbrev pub said_at : Table → Shape → List ℕ → (k : ℕ) → Option Entry
said_at T S text k = pick (readable T S text k) (Some (entry_at text k)) None

-- the block and the id are 16-bit numbers
abbrev pub Narrow : Option Entry → Type 0
Narrow (Some e) = (e.block < 65536) × (e.id < 65536)
Narrow None = Unit {0}

pub record Says (T : Table) (S : Shape) (text : List ℕ) (k : ℕ) (r : Option Entry) : Type 0 where
  pub is : r ≡ said_at T S text k
  pub narrow : Narrow r
