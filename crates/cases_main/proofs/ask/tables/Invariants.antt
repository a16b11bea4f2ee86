use mathlib.Core.Path.{◌≡◌}
use lib.ListN.{length}
use Rattle.cases_main.proofs.ask.tables.Given as goal

abbrev pub invariant-loop-i : goal.invariant-loop-i
invariant-loop-i l = length l.t ≡ 768
