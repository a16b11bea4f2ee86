use Rattle.session_trace.proofs.Walking.{Listed}
use lib.ListN.{length}
use mathlib.Core.Path.{◌≡◌}
use Rattle.session_trace.proofs.shown.put_variables.Given as goal

abbrev pub invariant-loop-v : goal.invariant-loop-v
invariant-loop-v l = Listed l.net.table.now l.net.shape l.store l.el l.initial.text l.at l.v l.p l.text × (length l.text ≡ length l.initial.text)
