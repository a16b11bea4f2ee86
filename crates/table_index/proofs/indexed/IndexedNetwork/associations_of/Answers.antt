use native.Mathlib.Omega.{arith}
use Rattle.table_index.proofs.laws.Walking.{listed_event, listed_no_event}
use Rattle.table_index.proofs.indexed.IndexedNetwork.associations_of.Goals as goal
use Rattle.table_index.proofs.indexed.IndexedNetwork.associations_of.Goals.{then-g-lt2, else-g-lt2}

pub walk-requires : goal.walk-requires
walk-requires c =
    let w = c.args.self.now.indexed in
    rw c.associations.ensures
    (elim c.if-g-lt2.branch [
      | then-g-lt2 b ↦ rw b.owners-is (listed_event _ _ _ w _ _ (omega arith) b.if-g-lt2.true)
      | else-g-lt2 b ↦ rw b.owners-is (listed_no_event _ _ _ w _ _ (omega arith) b.if-g-lt2.false c.requires)
    ])
