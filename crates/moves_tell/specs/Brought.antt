-- What an event brings by an input of its element: to the input itself, or, where it is passed on, to the output that is the input's partner.
use Rattle.std.specs.Prelude.{ℕ, Bool, true, false, List, [], ◌∷◌, Option, Some, None}
use Rattle.rules_walks.specs.First.{Sought, one}
use Rattle.rules_walks.specs.Pick.{pick}
use Rattle.rules_tables.specs.Frame.{Table}
use Rattle.rules_tables.specs.declared.Shape.{Shape}
use Rattle.rules_store.specs.Word.{Store}
use Rattle.rules_moves.specs.Partner.{partner_variable}
use Rattle.rules_traces.specs.declared.Entry.{Entry}
use Rattle.rules_traces.specs.Kinds.{input_kind, output_kind}
use Rattle.moves_tell.specs.Before.{sampled_entry}
use Rattle.moves_tell.specs.Pairs.{partner_entry}

-- the variable that gets what is in the buffer of input v
unfoldable pub getter : (passed : Bool) → Table → Shape → (v : ℕ) → Sought
getter true T S v = partner_variable T S v
getter false T S v = one v

unfoldable pub brought_kind : (passed : Bool) → ℕ
brought_kind passed = pick passed output_kind input_kind

unfoldable pub brought : (passed : Bool) → Table → Shape → (i : ℕ) → Store → (v : ℕ) → List Entry
brought true T S i s v = partner_entry T S i s v
brought false T S i s v = sampled_entry T S i s v

-- a frame that is told, if any
abbrev pub told_of : Option Entry → List Entry
told_of (Some e) = e ∷ []
told_of None = []
