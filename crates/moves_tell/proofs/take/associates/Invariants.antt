use mathlib.Core.Bool.{false}
use mathlib.Core.Path.{◌≡◌}
use Rattle.rules_walks.specs.All.{any_to}
use Rattle.rules_tables.specs.Kind.{of_input}
use Rattle.rules_tables.specs.Ids.{first_association, associations}
use Rattle.rules_moves.specs.Associated.{joins_variable}
use Rattle.table_index.specs.Walk.{Goes}
use Rattle.moves_tell.proofs.take.associates.Given as goal

abbrev pub invariant-loop-j : goal.invariant-loop-j
invariant-loop-j l =
    Goes l.ix.net.table.now (first_association l.ix.net.shape) (associations l.ix.net.shape) of_input l.i l.j-iterator
    × (any_to (joins_variable l.ix.net.table.now l.ix.net.shape l.i l.v) l.j-iterator.at ≡ false)
