-- `size` meets its contract: the frames of kinds 0 to 8 and the numbers, which are no more than the most.
use native.Mathlib.Omega.{arith}
use Rattle.moves_tell.proofs.laws.Sizing.{few_bytes, size_all}
use Rattle.moves_tell.proofs.size.Goals as goal

pub overflow_add-result : goal.overflow_add-result
overflow_add-result c = let h = size_all _ _ _ _ _ _ c.args.turn.telling c.first_size.ensures c.numbers_size.ensures in let m = few_bytes _ _ _ _ _ _ c.args.turn.telling in omega arith

pub returns : goal.returns
returns c = size_all _ _ _ _ _ _ c.args.turn.telling c.first_size.ensures c.numbers_size.ensures
