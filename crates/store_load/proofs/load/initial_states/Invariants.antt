use Rattle.rules_walks.specs.Walk.{up_to}
use Rattle.rules_store.specs.Load.{initial}
use lib.ListN.{length}
use mathlib.Core.Path.{◌≡◌}
use Rattle.store_load.proofs.load.initial_states.Given as goal

abbrev pub invariant-loop-el : goal.invariant-loop-el
invariant-loop-el l = (l.store ≡ up_to (initial l.net.table.now) l.el l.initial.store) × (length l.store ≡ length l.initial.store)
