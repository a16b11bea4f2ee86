-- From store s₀ on: the laws hold, and beside them now stands still, the overwritten count does not fall, and nothing past the need is written.
use Rattle.std.specs.Prelude.{List, Bool, ℕ, ◌≤◌}
use Rattle.rules_tables.specs.declared.Shape.{Shape}
use Rattle.rules_store.specs.Word.{overwritten}
use Rattle.rules_store.specs.Part.{Part, time, all_but, Leaves}
use Rattle.rules_log.specs.Log.{Log}
use Rattle.rules_log.specs.Origin.{Begun}
use Rattle.laws_log.specs.Holds.{Holds}

-- now stands still
abbrev pub still : Part → Bool
still = all_but time

pub record Onward (T : List ℕ) (S : Shape) (s₀ s : List ℕ) : Type 0 where
  pub leaves : Leaves T S still s₀ s
  pub grows : overwritten s₀ ≤ overwritten s

pub record Goes (T : List ℕ) (S : Shape) (B : Begun) (s₀ : List ℕ) (l : Log) (s : List ℕ) : Type 0 where
  pub holds : Holds T S B l s
  pub onward : Onward T S s₀ s
