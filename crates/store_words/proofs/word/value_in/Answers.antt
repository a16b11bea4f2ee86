-- `value_in` meets its contract: the words of a variable lie within the need, so the place is in the store.
use native.Mathlib.Omega.{arith}
use Rattle.rules_store.specs.Layout.{need, variable_at}
use Rattle.rules_store.specs.Word.{value}
use Rattle.store_words.proofs.word.value_in.Goals as goal

pub bounds-store-at : goal.bounds-store-at
unfolding need variable_at
bounds-store-at c = omega (arith, c.variable_at-at.ensures.is)

pub returns : goal.returns
unfolding value
returns c = rw c.variable_at-at.ensures.is
