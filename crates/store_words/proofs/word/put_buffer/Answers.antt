-- `put_buffer` meets its contract by those of the place and of `put`.
use Rattle.rules_store.specs.Word.{put_buffer}
use Rattle.store_words.proofs.word.put_buffer.Goals as goal

pub returns : goal.returns
unfolding put_buffer
returns c = rw (← c.variable_at.ensures.is) c.put.ensures
