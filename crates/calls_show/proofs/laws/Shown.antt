-- No frames show the store as it was.
use Rattle.std.specs.Prelude.{◌≡◌, List, ℕ}
use Rattle.rules_walks.proofs.laws.Walk.{up_to_none}
use Rattle.rules_tables.specs.declared.Shape.{Shape}
use Rattle.rules_store.specs.Word.{Store}
use Rattle.rules_traces.specs.Reader.{shown_after}

pub shown_none : (S : Shape) (text : List ℕ) (s : Store) → s ≡ shown_after S text 0 s
unfolding shown_after
shown_none S text s = up_to_none _ _
