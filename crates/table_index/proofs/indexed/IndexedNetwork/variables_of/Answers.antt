use native.Mathlib.Omega.{arith}
use Rattle.table_index.proofs.laws.Walking.{listed_inputs}
use Rattle.table_index.proofs.indexed.IndexedNetwork.variables_of.Goals as goal

pub walk-requires : goal.walk-requires
walk-requires c = rw c.variables.ensures (listed_inputs _ _ _ c.args.self.now.indexed _ (omega arith))
