-- `birth` meets its contract by those of the place and of `word`.
use Rattle.rules_store.specs.Word.{birth_of}
use Rattle.store_words.proofs.word.birth.Goals as goal

pub returns : goal.returns
unfolding birth_of
returns c = rw (← c.input_at.ensures.is) c.word.ensures
