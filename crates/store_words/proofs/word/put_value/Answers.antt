-- `put_value` meets its contract by those of the place and of `put`.
use Rattle.rules_store.specs.Word.{put_value}
use Rattle.store_words.proofs.word.put_value.Goals as goal

pub returns : goal.returns
unfolding put_value
returns c = rw (← c.variable_at.ensures.is) c.put.ensures
