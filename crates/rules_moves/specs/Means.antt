-- What an answer to "which move comes next" says of the running block r and the store s.
use Rattle.std.specs.Prelude.{◌≡◌, List, ℕ, ◌+◌, ◌<◌, ◌≤◌}
use Rattle.rules_walks.specs.First.{one, missing}
use Rattle.rules_tables.specs.Frame.{field_at}
use Rattle.rules_tables.specs.declared.Shape.{Shape}
use Rattle.rules_store.specs.declared.Running.{Running}
use Rattle.rules_tables.specs.Ids.{inputs, action_frame}
use Rattle.rules_store.specs.Running.{idle, charts}
use Rattle.rules_store.specs.Word.{current_event}
use Rattle.rules_moves.specs.Least.{least}
use Rattle.rules_moves.specs.Order.{Least}
use Rattle.rules_moves.specs.Chart.{transition_of, state_of}
use Rattle.rules_tables.specs.Actions.{action_of}
use Rattle.rules_moves.specs.declared.Next.{Next}
use Rattle.rules_moves.specs.declared.Next.TheVariants.{Take, Change, Idle, Step, End, Back, Nothing}
use Rattle.std.specs.Prelude.{None}

-- mode 2 is every other mode
pub record Acting (r : Running) : Type 0 where
  pub not_idle : r.mode ≡ idle → ⊥
  pub not_charts : r.mode ≡ charts → ⊥

-- step j is the next one of the present action
pub record Stepping (T : List ℕ) (S : Shape) (r : Running) (s : List ℕ) (j : ℕ) : Type 0 where
  pub acting : Acting r
  pub action : ℕ
  pub found : action_of T S (state_of s) r.action ≡ one action
  pub left : r.step < field_at T (action_frame S action) 2
  pub is : j ≡ field_at T (action_frame S action) 1 + r.step

-- action j is the present one, and its steps are done
pub record Ending (T : List ℕ) (S : Shape) (r : Running) (s : List ℕ) (j : ℕ) : Type 0 where
  pub acting : Acting r
  pub found : action_of T S (state_of s) r.action ≡ one j
  pub done : field_at T (action_frame S j) 2 ≤ r.step

abbrev pub Means : List ℕ → Shape → Running → List ℕ → Next → Type 0
Means T S r s (Take i) = (r.mode ≡ idle) × Least T S s (inputs S) i
Means T S r s (Change j) = (r.mode ≡ charts) × (transition_of T S s (state_of s) (current_event s) r.live ≡ one j)
Means T S r s Idle = (r.mode ≡ charts) × (transition_of T S s (state_of s) (current_event s) r.live ≡ missing)
Means T S r s (Step j) = Stepping T S r s j
Means T S r s (End j) = Ending T S r s j
Means T S r s Back = Acting r × (action_of T S (state_of s) r.action ≡ missing)
Means T S r s Nothing = (r.mode ≡ idle) × (least T S s ≡ None)
