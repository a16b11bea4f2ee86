-- The next due time, as facts: what the answer found by looking means, and that a store has it.
use Rattle.std.specs.Prelude.{◌≡◌, Bool, not, List, ℕ, ◌≤◌, ◌<◌, eqb, length}
use Rattle.rules_walks.specs.Pick.{both}
use Rattle.rules_walks.specs.All.{Witness}
use Rattle.rules_tables.specs.declared.Shape.{Shape}
use Rattle.rules_tables.specs.Ids.{elements}
use Rattle.rules_store.specs.declared.NextDue.{NextDue}
use Rattle.rules_store.specs.Layout.{need}
use Rattle.rules_store.specs.Word.{due_flag, due_time, next_due}
use Rattle.rules_store.specs.Due.{due_at, earliest}

-- a is 0 and 0, or 1 and the due time of one of the first n elements, which none of them is due before
pub record Earliest (s : List ℕ) (n : ℕ) (a : NextDue) : Type 0 where
  pub flagged : a.due ≤ 1
  pub rests : a.due ≡ 0 → a.time ≡ 0
  pub some : a.due ≡ 1 → Witness (due_at s a.time) n
  pub first : (el : ℕ) → el < n → (due_flag s el ≡ 0 → ⊥) → (a.due ≡ 1) × (a.time ≤ due_time s el)

-- element k, other than el, is due at the time t
abbrev pub another : List ℕ → (t el k : ℕ) → Bool
another s t el k = both (not (eqb k el)) (due_at s t k)

-- the store has its need, and its next due time is the one found by looking
pub record NextKept (S : Shape) (s : List ℕ) : Type 0 where
  pub long : need S ≤ length s
  pub next : next_due s ≡ earliest s (elements S)
