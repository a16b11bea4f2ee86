use native.Mathlib.Omega.{arith}
use Rattle.table_index.proofs.laws.Walking.{listed_any}
use Rattle.table_index.proofs.indexed.IndexedNetwork.first_transition.Goals as goal

pub first-requires : goal.first-requires
first-requires c = let w = c.args.self.now.indexed in rw c.transitions.ensures (listed_any _ _ _ _ _ _ _ (omega arith) (omega arith) w.states.leaving (λ i l. w.owners.transition_from i l))
