-- Every frame of a list.
use Rattle.std.specs.Prelude.{List, [], ◌∷◌}
use Rattle.rules_traces.specs.declared.Entry.{Entry}
use Rattle.rules_traces.specs.Entry.{entry}

-- P holds of each frame
pub data Each (P : Entry → Type 0) : List Entry → Type 0 where
  none : Each P []
  more : {e : Entry} {es : List Entry} → P e → Each P es → Each P (e ∷ es)

-- in place of a frame past the end
abbrev pub no_entry : Entry
no_entry = entry 0 0 0 0
