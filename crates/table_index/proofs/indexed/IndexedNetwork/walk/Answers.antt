use Rattle.table_index.proofs.laws.Walking.{walking_first}
use Rattle.table_index.proofs.indexed.IndexedNetwork.walk.Goals as goal

pub invariant_of-result : goal.invariant_of-result
invariant_of-result c = let w = c.requires in record { walking = walking_first _ _ _ _ _ _ _ w.inside c.first.ensures w.nexts }
