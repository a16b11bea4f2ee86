-- After such a sequence of calls: the table is accepted, and the laws hold.
use Rattle.std.specs.Prelude.{◌≡◌, List, ℕ}
use Rattle.rules_tables.specs.Judge.{accepted, judge, shape_of}
use Rattle.rules_log.specs.Log.{Log}
use Rattle.rules_log.specs.Origin.{fresh}
use Rattle.laws_log.specs.Holds.{Holds}

-- the table of such a sequence is accepted, and the laws hold
pub record Lawfully (T s : List ℕ) (l : Log) : Type 0 where
  pub verdict : judge T ≡ accepted
  pub holds : Holds T (shape_of T) (fresh T (shape_of T)) l s
