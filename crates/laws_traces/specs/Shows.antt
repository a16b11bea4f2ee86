-- What the reader shows: frames shown one after another, and a store that shows the same as another.
use Rattle.std.specs.Prelude.{ℕ, ◌<◌, ◌≡◌, Bool, List, [], ◌∷◌}
use Rattle.rules_tables.specs.Frame.{Table}
use Rattle.rules_tables.specs.declared.Shape.{Shape}
use Rattle.rules_tables.specs.Ids.{elements, variables}
use Rattle.rules_store.specs.Word.{Store, chart_state, value}
use Rattle.rules_store.specs.Part.{Part, chart, sampled, computed, just, also}
use Rattle.rules_traces.specs.declared.Entry.{Entry}
use Rattle.rules_traces.specs.Reader.{shown_of, ended_by, show_entry, shown_after}

-- the store after these frames, the first of them shown first
unfoldable pub show_all : Shape → List Entry → Store → Store
show_all S [] x = x
show_all S (e ∷ es) x = show_all S es (show_entry S e x)

-- x shows what s holds: the chart state of every element, and the value of every variable
pub record Alike (S : Shape) (x s : Store) : Type 0 where
  pub charts : (el : ℕ) → el < elements S → chart_state x el ≡ chart_state s el
  pub values : (v : ℕ) → v < variables S → value S x v ≡ value S s v

-- k lines of a text, read from the starting store s, show what s' holds; no line of them ends the reading
pub record Reads (T : Table) (S : Shape) (text : List ℕ) (k : ℕ) (s s' : Store) : Type 0 where
  pub read : shown_of T S text k ≡ k
  pub not_ended : ended_by text k k ≡ 0
  pub alike : Alike S (shown_after S text k s) s'

-- the parts of a store that are shown: chart states, and values of variables of every role
abbrev pub shown_parts : Part → Bool
shown_parts = also chart (also sampled (just computed))
