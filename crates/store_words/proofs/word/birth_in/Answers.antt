-- `birth_in` meets its contract: the words of an event input lie within the need, so the place is in the store.
use native.Mathlib.Omega.{arith}
use Rattle.rules_store.specs.Layout.{need, input_at}
use Rattle.rules_store.specs.Word.{birth_of}
use Rattle.store_words.proofs.word.birth_in.Goals as goal

pub bounds-store-at : goal.bounds-store-at
unfolding need input_at
bounds-store-at c = omega (arith, c.input_at-at.ensures.is)

pub returns : goal.returns
unfolding birth_of
returns c = rw c.input_at-at.ensures.is
