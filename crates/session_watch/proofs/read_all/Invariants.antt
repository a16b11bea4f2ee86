use mathlib.Core.Path.{◌≡◌}
use Rattle.session_watch.proofs.read_all.Given as goal

abbrev pub invariant-loop : goal.invariant-loop
invariant-loop g l = l.s.session.at ≡ 0
