-- `write_record` meets its contract: the head, then the values as they are sampled.
use Rattle.moves_take.proofs.Written.{record_written}
use Rattle.rules_moves.specs.Record.{record_size}
use lib.Seq.{length-sets}
use mathlib.Core.Path.{ap}
use lib.ListN.{length}
use native.Mathlib.Omega.{arith}
use Rattle.moves_take.proofs.record.write_record.Goals as goal

pub write_head-requires : goal.write_head-requires
unfolding record_size
write_head-requires c = let h = c.requires.2 in omega arith

pub sample_into-requires : goal.sample_into-requires
unfolding record_size
sample_into-requires c = let h = c.requires.2 in let e = simp length-sets at (ap length c.write_head.ensures) in omega arith

pub returns : goal.returns
unfolding record_size
returns c = (c.sample_into.ensures.0, record_written _ _ _ _ _ _ _ _ _ _ c.write_head.ensures c.sample_into.ensures.1, let h = c.sample_into.ensures.2 in omega arith)
