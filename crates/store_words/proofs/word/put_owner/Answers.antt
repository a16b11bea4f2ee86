-- `put_owner` meets its contract: two writes, one after the other.
use Rattle.rules_store.specs.Word.{put_owner}
use Rattle.store_words.proofs.word.put_owner.Goals as goal

pub returns : goal.returns
unfolding put_owner
returns c = rw (c.put-2.ensures, c.put.ensures)
