-- `value_of` meets its contract by those of the place and of `word`.
use Rattle.rules_store.specs.Word.{value}
use Rattle.store_words.proofs.word.value_of.Goals as goal

pub returns : goal.returns
unfolding value
returns c = rw (← c.variable_at.ensures.is) c.word.ensures
