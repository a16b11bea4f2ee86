use Rattle.std.specs.Iterator.Adapters.{enumerate_source, enumerate_count}
use Rattle.rules_tables.specs.Kind.{of_output}
use Rattle.rules_walks.specs.Count.{count_if}
use Rattle.rules_walks.specs.Walk.{up_to}
use Rattle.rules_tables.specs.Ids.{first_association, associations}
use Rattle.table_index.specs.Walk.{Goes}
use Rattle.rules_moves.specs.Carry.{voice, speaks}
use Rattle.rules_calls.specs.Calls.{give}
use Prim.Native.Nat.{◌≤◌}
use lib.ListN.{length}
use mathlib.Core.Path.{◌≡◌}
use Rattle.calls_run.proofs.calls.give_all.Given as goal

abbrev pub invariant-loop-k : goal.invariant-loop-k
invariant-loop-k l =
    let w = enumerate_source l.k-iterator in
    let k = enumerate_count l.k-iterator in
    Goes l.ix.net.table.now (first_association l.ix.net.shape) (associations l.ix.net.shape) of_output l.o w × (k ≡ count_if (speaks l.ix.net.table.now l.ix.net.shape (voice of_output l.o)) w.at) × (l.store ≡ up_to (give l.ix.net.table.now l.ix.net.shape l.o l.values) w.at l.initial.store) × (length l.store ≡ length l.initial.store) × (k ≤ w.at)
