-- `record_size` meets its contract: the associations of the event are those that belong to it under their flag.
use borrow.Author.Rules.{rules}
use Rattle.moves_take.proofs.Turns.{values_many, many_associations}
use Rattle.rules_moves.specs.Record.{record_size}
use mathlib.Core.Path.{ap}
use native.Mathlib.Omega.{arith}
use Prim.Native.Nat.{ℕ, ◌+◌, ◌*◌}
use Rattle.moves_take.proofs.record.record_size.Goals as goal

pub overflow_mul-result : goal.overflow_mul-result
overflow_mul-result c = let h = many_associations _ _ c.args.net.now.good c.associations.ensures in search rules

pub overflow_add-result : goal.overflow_add-result
overflow_add-result c = let h = many_associations _ _ c.args.net.now.good c.associations.ensures in search rules

pub returns : goal.returns
unfolding record_size
returns c = (ap (λ (n : ℕ). 16 + 4 * n) (values_many _ _ _ c.rank.ensures.0 c.associations.ensures), (let h = many_associations _ _ c.args.net.now.good c.associations.ensures in omega (arith, c.rank.ensures.1)))
