use Rattle.rules_moves.specs.Take.{sample}
use Rattle.rules_tables.specs.Ids.{first_association, associations}
use Rattle.rules_tables.specs.Kind.{of_input}
use Rattle.rules_walks.specs.Walk.{up_to}
use Rattle.table_index.specs.Walk.{Goes}
use lib.ListN.{length}
use mathlib.Core.Path.{◌≡◌}
use Rattle.moves_take.proofs.sample_all.Given as goal

abbrev pub invariant-loop-j : goal.invariant-loop-j
invariant-loop-j l = Goes l.ix.net.table.now (first_association l.ix.net.shape) (associations l.ix.net.shape) of_input l.i l.j-iterator × (l.store ≡ up_to (sample l.ix.net.table.now l.ix.net.shape l.i) l.j-iterator.at l.initial.store) × (length l.store ≡ length l.initial.store)
