use native.Mathlib.Omega.{arith}
use Rattle.table_index.proofs.laws.Walking.{listed_any}
use Rattle.table_index.proofs.indexed.IndexedNetwork.first_action.Goals as goal

pub first-requires : goal.first-requires
first-requires c = let w = c.args.self.now.indexed in rw c.actions.ensures (listed_any _ _ _ _ _ _ _ (omega arith) (omega arith) w.states.acting (λ i l. w.owners.action_state i l))
