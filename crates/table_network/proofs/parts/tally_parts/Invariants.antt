use Rattle.rules_walks.specs.Tally.{Tallied}
use Rattle.table_network.specs.Keys.{part_key}
use Rattle.table_network.proofs.parts.tally_parts.Given as goal

abbrev pub invariant-loop-f : goal.invariant-loop-f
invariant-loop-f l = Tallied (part_key l.t) 384 l.m l.f
