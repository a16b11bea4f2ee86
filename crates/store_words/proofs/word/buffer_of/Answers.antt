-- `buffer_of` meets its contract by those of the place and of `word`.
use Rattle.rules_store.specs.Word.{buffer}
use Rattle.store_words.proofs.word.buffer_of.Goals as goal

pub returns : goal.returns
unfolding buffer
returns c = rw (← c.variable_at.ensures.is) c.word.ensures
