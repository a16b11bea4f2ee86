-- What is known of the steps' results from the actions before.
use Rattle.std.specs.Prelude.{ℕ, ◌+◌, ◌≤◌, ◌<◌, List, ◌≡◌, true}
use Rattle.rules_tables.specs.Kind.{step, variable}
use Rattle.rules_tables.specs.Place.{owner_of, owned_by}
use Rattle.table_references.specs.declared.Run.{Run}

-- the result of each step of the run is a variable of its element
pub record Known (T : List ℕ) (run : Run) : Type 0 where
  pub upward : run.first ≤ run.end
  pub own : (i : ℕ) → run.first ≤ i → i < run.end → owned_by T variable (owner_of T step i) run.element ≡ true

-- the r steps from b on are the rest of a run of element el, or none
pub record Reaches (run : Run) (b el r : ℕ) : Type 0 where
  pub element : 0 < r → run.element ≡ el
  pub from : 0 < r → run.first ≤ b
  pub to : 0 < r → b + r ≡ run.end
