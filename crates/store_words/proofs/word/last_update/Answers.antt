-- `last_update` meets its contract by those of the place and of `word`.
use Rattle.rules_store.specs.Word.{last_update}
use Rattle.store_words.proofs.word.last_update.Goals as goal

pub returns : goal.returns
unfolding last_update
returns c = rw (← c.input_at.ensures.is) c.word.ensures
