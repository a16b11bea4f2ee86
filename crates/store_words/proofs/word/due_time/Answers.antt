-- `due_time` meets its contract by those of the place and of `word`.
use Rattle.rules_store.specs.Word.{due_time}
use Rattle.store_words.proofs.word.due_time.Goals as goal

pub returns : goal.returns
unfolding due_time
returns c = rw (← c.element_at.ensures.is) c.word.ensures
