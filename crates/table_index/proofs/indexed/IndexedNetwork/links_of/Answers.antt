use native.Mathlib.Omega.{arith}
use Rattle.table_index.proofs.laws.Walking.{listed_any}
use Rattle.table_index.proofs.indexed.IndexedNetwork.links_of.Goals as goal

pub walk-requires : goal.walk-requires
walk-requires c = let w = c.args.self.now.indexed in rw c.links.ensures (listed_any _ _ _ _ _ _ _ (omega arith) (omega arith) w.events.linked (λ i l. let h = w.lawful.is_good.link_source i l in let m = w.lawful.is_good.few_variables in omega arith))
