use Rattle.session_trace.proofs.Walking.{Passed}
use lib.ListN.{length}
use mathlib.Core.Path.{◌≡◌}
use Rattle.session_trace.proofs.shown.put_elements.Given as goal

abbrev pub invariant-loop-el : goal.invariant-loop-el
invariant-loop-el l = Passed l.net.table.now l.net.shape l.store l.initial.text l.at l.el l.p l.text × (length l.text ≡ length l.initial.text)
