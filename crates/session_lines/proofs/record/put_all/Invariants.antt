use Prim.Native.Nat.{◌≤◌, ◌-◌}
use Rattle.session_lines.proofs.Splitting.{Printed}
use Rattle.rules_moves.specs.Record.{record_size}
use lib.ListN.{length}
use mathlib.Core.Path.{◌≡◌}
use Rattle.session_lines.proofs.record.put_all.Given as goal

abbrev pub invariant-loop-from : goal.invariant-loop-from
invariant-loop-from l = (l.from ≤ length l.out) × Printed (record_size l.net.table.now l.net.shape) l.out l.initial.text l.at l.from l.p l.text × (length l.text ≡ length l.initial.text)

abbrev pub decreases-loop-from : goal.decreases-loop-from
decreases-loop-from l = length l.out - l.from
