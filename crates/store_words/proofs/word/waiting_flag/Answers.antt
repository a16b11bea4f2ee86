-- `waiting_flag` meets its contract by those of the place and of `word`.
use Rattle.rules_store.specs.Word.{waiting}
use Rattle.store_words.proofs.word.waiting_flag.Goals as goal

pub returns : goal.returns
unfolding waiting
returns c = rw (← c.input_at.ensures.is) c.word.ensures
