use Rattle.table_frames.specs.Kind.{kind_number}
use Rattle.table_frames.specs.Walked.{KindTo}
use Rattle.table_frames.proofs.form.kind_end.Given as goal

abbrev pub invariant-loop-f : goal.invariant-loop-f
invariant-loop-f l = KindTo l.t (kind_number l.kind) l.start l.f
