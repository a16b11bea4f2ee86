use Rattle.table_frames.specs.Placed.{Placed, Nexts}
use Rattle.table_frames.proofs.kinds.Kinds.put_places.Given as goal

abbrev pub invariant-loop-f : goal.invariant-loop-f
invariant-loop-f l = Nexts l.self.table.now l.next l.f × Placed l.self.table.now l.places l.f
