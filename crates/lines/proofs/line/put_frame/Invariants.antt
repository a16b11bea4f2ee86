use Rattle.rules_sessions.specs.Line.{bytes_to}
use lib.ListN.{length}
use lib.Seq.{sets}
use mathlib.Core.Path.{◌≡◌}
use Rattle.lines.proofs.line.put_frame.Given as goal

abbrev pub invariant-loop-k : goal.invariant-loop-k
invariant-loop-k l = (l.t ≡ sets l.initial.t l.at (bytes_to l.line l.k)) × (length l.t ≡ length l.initial.t)
