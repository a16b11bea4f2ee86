use Rattle.rules_walks.specs.Walk.{up_to}
use Rattle.rules_store.specs.Load.{start}
use lib.ListN.{length}
use mathlib.Core.Path.{◌≡◌}
use Rattle.store_load.proofs.load.start_values.Given as goal

abbrev pub invariant-loop-v : goal.invariant-loop-v
invariant-loop-v l = (l.store ≡ up_to (start l.net.table.now l.net.shape) l.v l.initial.store) × (length l.store ≡ length l.initial.store)
