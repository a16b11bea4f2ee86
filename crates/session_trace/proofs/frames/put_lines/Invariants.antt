use Rattle.session_trace.proofs.Lining.{Lined}
use lib.ListN.{length}
use mathlib.Core.Path.{◌≡◌}
use Rattle.session_trace.proofs.frames.put_lines.Given as goal

abbrev pub invariant-loop-k : goal.invariant-loop-k
invariant-loop-k l = Lined l.trace l.initial.text l.at l.k l.p l.text × (length l.text ≡ length l.initial.text)
