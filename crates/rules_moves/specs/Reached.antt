-- An event input after an event output was fired: where it is reached (b) it waits with this birth and last update, else it is as it was in s.
use Rattle.std.specs.Prelude.{◌≡◌, List, Bool, true, false, ℕ, ◌≤◌, length}
use Rattle.rules_tables.specs.declared.Shape.{Shape}
use Rattle.rules_store.specs.Layout.{need}
use Rattle.rules_store.specs.Part.{SameInput}
use Rattle.rules_store.specs.Own.{Input}

pub record Reached (S : Shape) (birth t i : ℕ) (s : List ℕ) (b : Bool) (x : List ℕ) : Type 0 where
  pub long : need S ≤ length x
  pub hit : b ≡ true → Input S i 1 birth t x
  pub miss : b ≡ false → SameInput S s x i
