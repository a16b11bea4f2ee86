-- "Well formed", as facts: what the clauses of the test say of a store's words.
use Rattle.std.specs.Prelude.{◌≡◌, List, true, ℕ, ◌-◌, ◌≤◌, ◌<◌, length}
use Rattle.rules_tables.specs.Kind.{delay}
use Rattle.rules_tables.specs.Frame.{flag_at, field_at}
use Rattle.rules_tables.specs.declared.Shape.{Shape}
use Rattle.rules_store.specs.declared.Running.{Running}
use Rattle.rules_tables.specs.Ids.{elements, inputs, variables, input_frame, variable_frame}
use Rattle.rules_store.specs.Layout.{need}
use Rattle.rules_store.specs.Word.{largest_due, largest_time, now_of, running_element, current_event, running_of, next_due, spares, spare_word, chart_state, due_flag, due_time, waiting, birth_of, last_update, buffer}
use Rattle.rules_store.specs.Due.{earliest}
use Rattle.rules_tables.specs.Actions.{action_of}
use Rattle.rules_store.specs.WellFormed.{step_ok}
use Rattle.rules_tables.specs.Lawful.{StateOf}

-- "A waiting event has birth ≤ last update ≤ now, others zeros." "Flags are 0 or 1."
pub record InputFact (S : Shape) (s : List ℕ) (i : ℕ) : Type 0 where
  pub flagged : waiting S s i ≤ 1
  pub rests : waiting S s i ≡ 0 → (birth_of S s i ≡ 0) × (last_update S s i ≡ 0)
  pub waits : waiting S s i ≡ 1 → (birth_of S s i ≤ last_update S s i) × (last_update S s i ≤ now_of s)

-- "A due flag is only on a delay, due from now to 4,294,967,294, else zeros."
pub record DueFact (T s : List ℕ) (el : ℕ) : Type 0 where
  pub flagged : due_flag s el ≤ 1
  pub rests : due_flag s el ≡ 0 → due_time s el ≡ 0
  pub due : due_flag s el ≡ 1 → (flag_at T el ≡ delay) × (now_of s ≤ due_time s el) × (due_time s el ≤ largest_due)

-- "A basic element's chart state is its own", else 0
pub record ChartFact (T : List ℕ) (S : Shape) (s : List ℕ) (el : ℕ) : Type 0 where
  pub basic : flag_at T el ≡ 0 → StateOf T S (chart_state s el) el
  pub other : (flag_at T el ≡ 0 → ⊥) → chart_state s el ≡ 0

-- everything but the running block
pub record Parts (T : List ℕ) (S : Shape) (s : List ℕ) : Type 0 where
  pub long : need S ≤ length s
  pub in_time : now_of s ≤ largest_time
  pub spare : (j : ℕ) → j < spares → spare_word s j ≡ 0
  pub next : next_due s ≡ earliest s (elements S)
  pub charts : (el : ℕ) → el < elements S → ChartFact T S s el
  pub dues : (el : ℕ) → el < elements S → DueFact T s el
  pub events : (i : ℕ) → i < inputs S → InputFact S s i
  pub buffers : (v : ℕ) → v < variables S → (flag_at T (variable_frame S v) ≡ 0 → ⊥) → buffer S s v ≡ 0

-- "idle means words 1 to 7 zero"
pub record Rest (s : List ℕ) : Type 0 where
  pub element : running_element s ≡ 0
  pub event : current_event s ≡ 0
  pub birth : (running_of s).birth ≡ 0
  pub live : (running_of s).live ≡ 0
  pub action : (running_of s).action ≡ 0
  pub step : (running_of s).step ≡ 0

-- "mode 1 has action and step 0; mode 2 has live 0, action at most the number of the state's actions, step at most that action's steps"; q is the chart state
pub record Mode (T : List ℕ) (S : Shape) (r : Running) (q : ℕ) : Type 0 where
  pub charting : r.mode ≡ 1 → (r.live ≤ 1) × (r.action ≡ 0) × (r.step ≡ 0)
  pub acting : (r.mode ≡ 1 → ⊥) → (r.mode ≡ 2) × (r.live ≡ 0) × (step_ok T S r (action_of T S q r.action) ≡ true)

-- "the element basic, the event its own, birth at most now": e and i are the words that the store has, each plus 1
pub record Owner (T : List ℕ) (S : Shape) (e i : ℕ) : Type 0 where
  pub element : 1 ≤ e
  pub within : e ≤ elements S
  pub basic : flag_at T (e - 1) ≡ 0
  pub event : 1 ≤ i
  pub inside : i ≤ inputs S
  pub own : field_at T (input_frame S (i - 1)) 0 ≡ e - 1

pub record Busy (T : List ℕ) (S : Shape) (s : List ℕ) : Type 0 where
  pub owner : Owner T S (running_element s) (current_event s)
  pub born : (running_of s).birth ≤ now_of s
  pub mode : Mode T S (running_of s) (chart_state s (running_element s - 1))

pub record Block (T : List ℕ) (S : Shape) (s : List ℕ) : Type 0 where
  pub idle : (running_of s).mode ≡ 0 → Rest s
  pub busy : ((running_of s).mode ≡ 0 → ⊥) → Busy T S s

pub record Formed (T : List ℕ) (S : Shape) (s : List ℕ) : Type 0 where
  pub parts : Parts T S s
  pub block : Block T S s
