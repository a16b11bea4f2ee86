-- The number of a reason to stop, and 0 where there is none.
use Rattle.std.specs.Prelude.{ℕ, Option, Some, None}
use Rattle.calls_run.specs.declared.running.Stop.{Stop}
use Rattle.calls_run.specs.declared.running.Stop.TheVariants.{NoMove, Budget, Room, TraceRoom}

abbrev pub number_of : Stop → ℕ
number_of NoMove = 1
number_of Budget = 2
number_of Room = 3
number_of TraceRoom = 4

abbrev pub why : Option Stop → ℕ
why (Some e) = number_of e
why None = 0
