use Rattle.rules_moves.specs.Fire.{copy_if}
use Rattle.rules_tables.specs.Ids.{first_link, links}
use lib.Dec.{eqb}
use Rattle.rules_tables.specs.Owned.{any}
use Rattle.rules_walks.specs.Walk.{up_to}
use Rattle.table_index.specs.Walk.{Goes}
use lib.ListN.{length}
use mathlib.Core.Path.{◌≡◌}
use Rattle.moves_fire.proofs.copy_from.Given as goal

abbrev pub invariant-loop-j : goal.invariant-loop-j
invariant-loop-j l = Goes l.ix.net.table.now (first_link l.ix.net.shape) (links l.ix.net.shape) any l.v l.j-iterator × (l.store ≡ up_to (copy_if l.ix.net.table.now l.ix.net.shape (eqb l.v)) l.j-iterator.at l.initial.store) × (length l.store ≡ length l.initial.store)
