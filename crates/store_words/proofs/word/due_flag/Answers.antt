-- `due_flag` meets its contract by those of the place and of `word`.
use Rattle.rules_store.specs.Word.{due_flag}
use Rattle.store_words.proofs.word.due_flag.Goals as goal

pub returns : goal.returns
unfolding due_flag
returns c = rw (← c.element_at.ensures.is) c.word.ensures
