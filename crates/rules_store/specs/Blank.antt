-- "Load zeroes the need": a store whose words below n are zero, and what its accessors then read.
use Rattle.std.specs.Prelude.{◌≡◌, List, ℕ, ◌≤◌, ◌<◌, length, get_or}
use Rattle.rules_tables.specs.declared.Shape.{Shape}
use Rattle.rules_tables.specs.Ids.{elements, inputs, variables}
use Rattle.rules_store.specs.Layout.{need}
use Rattle.rules_store.specs.Due.{nothing_due}
use Rattle.rules_store.specs.Running.{rest}
use Rattle.rules_store.specs.Word.{now_of, running_element, current_event, running_of, next_due, untrue, spares, spare_word, chart_state, due_flag, due_time, waiting, birth_of, last_update, buffer}

pub record Zeroed (s : List ℕ) (n : ℕ) (x : List ℕ) : Type 0 where
  pub long : length x ≡ length s
  pub at : (p : ℕ) → p < n → get_or x p 0 ≡ 0

-- a store whose need is zeroed
pub record Blank (S : Shape) (x : List ℕ) : Type 0 where
  pub long : need S ≤ length x
  pub now : now_of x ≡ 0
  pub untrue_none : untrue x ≡ 0
  pub next : next_due x ≡ nothing_due
  pub spare : (j : ℕ) → j < spares → spare_word x j ≡ 0
  pub element : running_element x ≡ 0
  pub event : current_event x ≡ 0
  pub running : running_of x ≡ rest
  pub charts : (el : ℕ) → el < elements S → chart_state x el ≡ 0
  pub dues : (el : ℕ) → el < elements S → (due_flag x el ≡ 0) × (due_time x el ≡ 0)
  pub events : (i : ℕ) → i < inputs S → (waiting S x i ≡ 0) × (birth_of S x i ≡ 0) × (last_update S x i ≡ 0)
  pub buffers : (v : ℕ) → v < variables S → buffer S x v ≡ 0
