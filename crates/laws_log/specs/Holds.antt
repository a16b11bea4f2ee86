-- The four laws of demand 3 as facts of a log and a store.
use Rattle.std.specs.Prelude.{◌≡◌, List, Bool, ℕ, ◌≤◌, ◌<◌}
use Rattle.rules_tables.specs.Frame.{flag_at}
use Rattle.rules_tables.specs.declared.Shape.{Shape}
use Rattle.rules_tables.specs.Ids.{inputs, variables, links, variable_frame}
use Rattle.rules_store.specs.Word.{now_of, running_of, waiting, birth_of, last_update, value, buffer}
use Rattle.rules_store.specs.Part.{Part, block, untrues, chart, due, just, also, computed}
use Rattle.rules_tables.specs.Lawful.{source, destination}
use Rattle.rules_store.specs.Formed.{Formed}
use Rattle.rules_log.specs.Log.{How, begins, goes_on, Log}
use Rattle.rules_log.specs.Origin.{Chain, born, Begun, latest, Ordered, waits, current, origin, last_sampled, last_copied}

-- ---- the laws
-- events were taken in order, and no event that waits is earlier than they
pub record OrderLaw (S : Shape) (B : Begun) (l : Log) (s : List ℕ) : Type 0 where
  pub ordered : Ordered S B l
  pub late : latest S B l ≤ now_of s
  pub later : (i : ℕ) → i < inputs S → waiting S s i ≡ 1 → latest S B l ≤ last_update S s i

-- an event that waits, and the event being run, bear the birth of their chain
pub record BirthLaw (T : List ℕ) (S : Shape) (B : Begun) (l : Log) (s : List ℕ) : Type 0 where
  pub waiting_born : (i : ℕ) → i < inputs S → waiting S s i ≡ 1 → born (birth_of S s i) ≡ origin T S B l (waits i)
  pub running_born : ((running_of s).mode ≡ 0 → ⊥) → born (running_of s).birth ≡ origin T S B l current

-- an input holds what its buffer held when an event associated with it was last taken
abbrev pub InputLaw : List ℕ → Shape → Begun → Log → List ℕ → Type 0
InputLaw T S B l s = (v : ℕ) → v < variables S → flag_at T (variable_frame S v) ≡ 0 → value S s v ≡ last_sampled T S B l v

-- a connected buffer holds what its source held when an event carrying it was last fired
abbrev pub BufferLaw : List ℕ → Shape → Begun → Log → List ℕ → Type 0
BufferLaw T S B l s = (j : ℕ) → j < links S → buffer S s (destination T S j) ≡ last_copied T S B l (source T S j) (destination T S j)

pub record Holds (T : List ℕ) (S : Shape) (B : Begun) (l : Log) (s : List ℕ) : Type 0 where
  pub formed : Formed T S s
  pub order : OrderLaw S B l s
  pub births : BirthLaw T S B l s
  pub input_law : InputLaw T S B l s
  pub buffer_law : BufferLaw T S B l s

-- what a quiet change touches: the running block, the count of untrue steps, a chart state, a due time, values that are no inputs
abbrev pub quiet : Part → Bool
quiet = also block (also untrues (also chart (also due (just computed))))

-- ---- the chain of an event that is fired
abbrev pub chain_by : List ℕ → Shape → Begun → Log → How → Chain
chain_by T S B l (begins t) = born t
chain_by T S B l goes_on = origin T S B l current
