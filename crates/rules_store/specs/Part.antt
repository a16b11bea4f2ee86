-- The parts of a store, and what a change of it leaves. Laws above this crate speak of parts and never of places.
use Rattle.std.specs.Prelude.{◌≡◌, List, Bool, true, false, not, ℕ, ◌≤◌, ◌<◌, eqb, length, get_or}
use Rattle.rules_walks.specs.Pick.{either}
use Rattle.rules_tables.specs.Frame.{flag_at}
use Rattle.rules_tables.specs.declared.Shape.{Shape}
use Rattle.rules_tables.specs.Ids.{elements, inputs, variables, variable_frame}
use Rattle.rules_store.specs.Layout.{need}
use Rattle.rules_store.specs.Word.{now_of, running_element, current_event, running_of, overwritten, next_due, untrue, spares, spare_word, chart_state, due_flag, due_time, waiting, birth_of, last_update, value, buffer}

-- now; the running block with its element and event; the overwritten count; the count of untrue steps; the chart states; the due flags and times, with the next due
-- time; the event inputs; the values of input variables; the values of output and internal variables; the buffers. Every word of the need is of one part, but for the spare ones
pub data Part : Type 0 where
  time : Part
  block : Part
  count : Part
  untrues : Part
  chart : Part
  due : Part
  input : Part
  sampled : Part
  computed : Part
  buffered : Part

-- ---- sets of parts
abbrev code : Part → ℕ
code time = 0
code block = 1
code count = 2
code untrues = 3
code chart = 4
code due = 5
code input = 6
code sampled = 7
code computed = 8
code buffered = 9

-- this part alone
abbrev pub just : Part → Part → Bool
just a p = eqb (code a) (code p)

-- one part more
abbrev pub also : Part → (Part → Bool) → Part → Bool
also a f p = either (just a p) (f p)

-- every part but this one
abbrev pub all_but : Part → Part → Bool
all_but a p = not (just a p)

abbrev pub everything : Part → Bool
everything p = true

abbrev pub nothing : Part → Bool
nothing p = false

-- what a step touches beside the running block: values that are no inputs, and the count of untrue steps. Nothing asks of these that they are well formed
abbrev pub calm : Part → Bool
calm = also untrues (just computed)

-- ---- stores that agree in a part
pub record SameBlock (s s' : List ℕ) : Type 0 where
  pub element : running_element s' ≡ running_element s
  pub event : current_event s' ≡ current_event s
  pub running : running_of s' ≡ running_of s

pub record SameDue (s s' : List ℕ) (el : ℕ) : Type 0 where
  pub flag : due_flag s' el ≡ due_flag s el
  pub at : due_time s' el ≡ due_time s el

pub record SameInput (S : Shape) (s s' : List ℕ) (i : ℕ) : Type 0 where
  pub waits : waiting S s' i ≡ waiting S s i
  pub born : birth_of S s' i ≡ birth_of S s i
  pub last : last_update S s' i ≡ last_update S s i

-- s' is s but for the parts that are touched; the spare words and those past the need are never touched
pub record Leaves (T : List ℕ) (S : Shape) (touched : Part → Bool) (s s' : List ℕ) : Type 0 where
  pub long : length s' ≡ length s
  pub past : (p : ℕ) → need S ≤ p → get_or s' p 0 ≡ get_or s p 0
  pub spare : (j : ℕ) → j < spares → spare_word s' j ≡ spare_word s j
  pub now : touched time ≡ false → now_of s' ≡ now_of s
  pub running : touched block ≡ false → SameBlock s s'
  pub counted : touched count ≡ false → overwritten s' ≡ overwritten s
  pub untrue_same : touched untrues ≡ false → untrue s' ≡ untrue s
  pub charts : touched chart ≡ false → (el : ℕ) → el < elements S → chart_state s' el ≡ chart_state s el
  pub dues : touched due ≡ false → (el : ℕ) → el < elements S → SameDue s s' el
  pub next_same : touched due ≡ false → next_due s' ≡ next_due s
  pub waits : touched input ≡ false → (i : ℕ) → i < inputs S → SameInput S s s' i
  pub values : touched sampled ≡ false → (v : ℕ) → v < variables S → flag_at T (variable_frame S v) ≡ 0 → value S s' v ≡ value S s v
  pub results : touched computed ≡ false → (v : ℕ) → v < variables S → (flag_at T (variable_frame S v) ≡ 0 → ⊥) → value S s' v ≡ value S s v
  pub buffers : touched buffered ≡ false → (v : ℕ) → v < variables S → buffer S s' v ≡ buffer S s v

-- ---- a stretch of places: s' is s but for the words from lo up to hi
pub record Outside (lo hi : ℕ) (s s' : List ℕ) : Type 0 where
  pub long : length s' ≡ length s
  pub apart : (p : ℕ) → (lo ≤ p → p < hi → ⊥) → get_or s' p 0 ≡ get_or s p 0
