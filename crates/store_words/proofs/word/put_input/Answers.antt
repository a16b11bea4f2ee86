-- `put_input` meets its contract: three writes, one after the other.
use Rattle.rules_store.specs.Word.{put_input}
use Rattle.store_words.proofs.word.put_input.Goals as goal

pub returns : goal.returns
unfolding put_input
returns c = rw (← c.input_at-at.ensures.is, c.put-3.ensures, c.put-2.ensures, c.put.ensures)
