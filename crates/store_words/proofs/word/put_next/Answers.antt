-- `put_next` meets its contract: two writes, one after the other.
use Rattle.rules_store.specs.Word.{put_next}
use Rattle.store_words.proofs.word.put_next.Goals as goal

pub returns : goal.returns
unfolding put_next
returns c = rw (c.put-2.ensures, c.put.ensures)
