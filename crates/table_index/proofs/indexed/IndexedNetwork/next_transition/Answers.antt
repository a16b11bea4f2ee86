use Rattle.table_index.proofs.laws.Owned.{follows_any}
use Rattle.table_index.proofs.indexed.IndexedNetwork.next_transition.Goals as goal

pub returns : goal.returns
returns c = let w = c.args.self.now.indexed in rw c.from.ensures (follows_any _ _ _ _ _ _ w.states.leaving _ c.requires)
