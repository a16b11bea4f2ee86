-- Each reason to stop has a number of its own, and 0 is none.
use Rattle.std.specs.Prelude.{◌≡◌}
use native.Mathlib.Omega.{arith}
use Rattle.calls_run.specs.declared.running.Stop.{Stop}
use Rattle.calls_run.specs.declared.running.Stop.TheVariants.{NoMove, Budget, Room, TraceRoom}
use Rattle.calls_run.specs.Asked.{number_of}

pub some_number : (e : Stop) → number_of e ≡ 0 → ⊥
some_number NoMove h = omega arith
some_number Budget h = omega arith
some_number Room h = omega arith
some_number TraceRoom h = omega arith
