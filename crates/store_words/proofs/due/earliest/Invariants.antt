use mathlib.Core.Path.{◌≡◌}
use Rattle.rules_store.specs.Due.{earliest}
use Rattle.store_words.proofs.due.earliest.Given as goal

abbrev pub invariant-loop-el : goal.invariant-loop-el
invariant-loop-el l = l.next ≡ earliest l.store l.el
