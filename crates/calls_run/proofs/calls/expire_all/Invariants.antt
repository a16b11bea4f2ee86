use Rattle.rules_walks.specs.Walk.{up_to}
use Rattle.rules_store.specs.Earliest.{NextKept}
use Rattle.rules_calls.specs.Calls.{expire}
use lib.ListN.{length}
use mathlib.Core.Path.{◌≡◌}
use Rattle.calls_run.proofs.calls.expire_all.Given as goal

abbrev pub invariant-loop-el : goal.invariant-loop-el
invariant-loop-el l = (l.store ≡ up_to (expire l.ix.net.table.now l.ix.net.shape l.to) l.el l.initial.store) × (length l.store ≡ length l.initial.store) × NextKept l.ix.net.shape l.store
