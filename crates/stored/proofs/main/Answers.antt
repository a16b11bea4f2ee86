-- `main` is safe: no stretch is longer than its buffer.
use lib.ListN.{length, length-take}
use mathlib.Core.Path.{ap}
use native.Mathlib.Omega.{arith}
use Rattle.stored.proofs.main.Goals as goal

pub tell_all-requires : goal.tell_all-requires
tell_all-requires c = omega (arith, simp length-take at (ap length c.stretch.ensures))
