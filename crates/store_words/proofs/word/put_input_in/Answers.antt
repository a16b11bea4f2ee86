-- `put_input_in` meets its contract: the words of an event input lie within the need, so the places are in the store.
use native.Mathlib.Omega.{arith}
use lib.ListN.{length-set}
use Rattle.rules_store.specs.Layout.{need, input_at}
use Rattle.rules_store.specs.Word.{put_input}
use Rattle.store_words.proofs.word.put_input_in.Goals as goal

pub bounds-store-at : goal.bounds-store-at
unfolding need input_at
bounds-store-at c = omega (arith, c.input_at-at.ensures.is)

pub bounds-store-at-2 : goal.bounds-store-at-2
unfolding need input_at
bounds-store-at-2 c = simp length-set (omega (arith, c.input_at-at.ensures.is))

pub bounds-store-at-3 : goal.bounds-store-at-3
unfolding need input_at
bounds-store-at-3 c = simp length-set (omega (arith, c.input_at-at.ensures.is))

pub returns : goal.returns
unfolding put_input
returns c = rw c.input_at-at.ensures.is
