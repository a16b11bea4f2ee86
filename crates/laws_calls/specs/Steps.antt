-- One public call as a step of a sequence: the laws after it, and what every call keeps.
use Rattle.std.specs.Prelude.{◌≡◌, List, ℕ, ◌≤◌, length, get_or}
use Rattle.rules_tables.specs.declared.Shape.{Shape}
use Rattle.rules_tables.specs.Judge.{shape_of}
use Rattle.rules_store.specs.Layout.{need}
use Rattle.rules_store.specs.Word.{now_of, overwritten, untrue}
use Rattle.rules_log.specs.Log.{Log}
use Rattle.rules_log.specs.Origin.{Begun}
use Rattle.laws_log.specs.Holds.{Holds}

-- what every call keeps: "Words past the need are never touched"; now and both counts never fall
pub record Steady (S : Shape) (s s' : List ℕ) : Type 0 where
  pub long : length s' ≡ length s
  pub past : (p : ℕ) → need S ≤ p → get_or s' p 0 ≡ get_or s p 0
  pub later : now_of s ≤ now_of s'
  pub grows : overwritten s ≤ overwritten s'
  pub untrue_grows : untrue s ≤ untrue s'

-- a step of the sequence
pub record Step (T : List ℕ) (B : Begun) (s : List ℕ) (l' : Log) (s' : List ℕ) : Type 0 where
  pub holds : Holds T (shape_of T) B l' s'
  pub steady : Steady (shape_of T) s s'
