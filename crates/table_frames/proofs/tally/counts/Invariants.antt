use Rattle.rules_walks.specs.Tally.{Tallied}
use Rattle.rules_tables.specs.Frame.{kind_at}
use Rattle.table_frames.proofs.tally.counts.Given as goal

abbrev pub invariant-loop-f : goal.invariant-loop-f
invariant-loop-f l = Tallied (kind_at l.t) 12 l.m l.f
