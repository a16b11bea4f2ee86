use Rattle.std.proofs.Common.{◌+◌}
use Rattle.table_frames.specs.Walked.{Walked}
use Rattle.table_frames.proofs.form.formed_starts.Given as goal

abbrev pub invariant-loop-kind : goal.invariant-loop-kind
invariant-loop-kind l = Walked l.t l.from (l.kind-index + 1) l.f
