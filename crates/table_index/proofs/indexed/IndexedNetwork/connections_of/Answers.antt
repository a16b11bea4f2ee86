use native.Mathlib.Omega.{arith}
use Rattle.table_index.proofs.laws.Walking.{listed_any}
use Rattle.table_index.proofs.indexed.IndexedNetwork.connections_of.Goals as goal

pub walk-requires : goal.walk-requires
walk-requires c = let w = c.args.self.now.indexed in rw c.connections.ensures (listed_any _ _ _ _ _ _ _ (omega arith) (omega arith) w.events.connected (λ i l. w.owners.connection_output i l))
