use mathlib.Core.Path.{◌≡◌}
use lib.ListN.{length}
use Rattle.cases_main.proofs.ask.make_all.Given as goal

abbrev pub invariant-loop-i : goal.invariant-loop-i
invariant-loop-i l = (length l.store ≡ length l.initial.store) × (length l.out ≡ length l.initial.out)
