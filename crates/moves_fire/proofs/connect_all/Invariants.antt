use Rattle.rules_moves.specs.Fire.{connect}
use Rattle.rules_tables.specs.Ids.{first_connection, connections}
use Rattle.rules_tables.specs.Owned.{any}
use Rattle.rules_walks.specs.Walk.{up_to}
use Rattle.table_index.specs.Walk.{Goes}
use lib.ListN.{length}
use mathlib.Core.Path.{◌≡◌}
use Rattle.moves_fire.proofs.connect_all.Given as goal

abbrev pub invariant-loop-j : goal.invariant-loop-j
invariant-loop-j l = Goes l.ix.net.table.now (first_connection l.ix.net.shape) (connections l.ix.net.shape) any l.o l.j-iterator × (l.store ≡ up_to (connect l.ix.net.table.now l.ix.net.shape l.o l.birth l.time) l.j-iterator.at l.initial.store) × (length l.store ≡ length l.initial.store)
