-- What an interface's outputs get, told along its inputs: the k-th input and the k-th output belong together.
use Rattle.std.specs.Prelude.{ℕ, List, []}
use Rattle.rules_walks.specs.First.{Sought, one, missing}
use Rattle.rules_tables.specs.Frame.{Table}
use Rattle.rules_tables.specs.declared.Shape.{Shape}
use Rattle.rules_store.specs.Word.{Store}
use Rattle.rules_moves.specs.Partner.{partner_variable}
use Rattle.rules_traces.specs.declared.Entry.{Entry}
use Rattle.moves_tell.specs.Before.{passed_from}

-- the partner of input v, if it has one, gets what v got
unfoldable pub passed_to : Table → Shape → (i : ℕ) → Store → (v : ℕ) → Sought → List Entry
passed_to T S i s v (one u) = passed_from T S i s u v
passed_to T S i s v missing = []

unfoldable pub partner_entry : Table → Shape → (i : ℕ) → Store → (v : ℕ) → List Entry
partner_entry T S i s v = passed_to T S i s v (partner_variable T S v)
