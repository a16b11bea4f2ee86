-- "take the least by (last update, element priority, local priority)": what least means, in words of numbers alone.
use Rattle.std.specs.Prelude.{◌≡◌, List, ◌⊎◌, ℕ, ◌≤◌, ◌<◌}
use Rattle.rules_tables.specs.declared.Shape.{Shape}
use Rattle.rules_store.specs.Word.{waiting}
use Rattle.rules_moves.specs.declared.Key.{Key}
use Rattle.rules_moves.specs.Least.{key_of}

-- k comes no later than h: an earlier last update, or the same and a smaller element priority, or that too and no greater local priority
abbrev pub NoLater : Key → Key → Type 0
NoLater k h = (k.last < h.last) ⊎ ((k.last ≡ h.last) × ((k.priority < h.priority) ⊎ ((k.priority ≡ h.priority) × (k.local ≤ h.local))))

-- of the event inputs below n, i is the least of those that wait
pub record Least (T : List ℕ) (S : Shape) (s : List ℕ) (n i : ℕ) : Type 0 where
  pub inside : i < n
  pub waits : waiting S s i ≡ 0 → ⊥
  pub first : (c : ℕ) → c < n → (waiting S s c ≡ 0 → ⊥) → NoLater (key_of T S s i) (key_of T S s c)
