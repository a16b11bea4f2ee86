use Prim.Native.Nat.{◌*◌, ◌≤◌}
use Rattle.rules_tables.specs.Kind.{input}
use Rattle.rules_tables.specs.Ids.{first_variable, variables}
use Rattle.rules_traces.specs.Gather.{gather}
use Rattle.table_index.specs.Walk.{Goes}
use Rattle.moves_tell.specs.Told.{Sized}
use Rattle.moves_tell.specs.Brought.{brought}
use Rattle.moves_tell.proofs.sizes.all_size.Given as goal

abbrev pub invariant-loop-v : goal.invariant-loop-v
invariant-loop-v l =
    Goes l.ix.net.table.now (first_variable l.ix.net.shape) (variables l.ix.net.shape) input l.el l.v-iterator
    × Sized (gather (brought l.passed l.ix.net.table.now l.ix.net.shape l.i l.store) l.v-iterator.at) l.z × (l.z ≤ 12 * l.v-iterator.at)
