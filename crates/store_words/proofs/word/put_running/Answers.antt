-- `put_running` meets its contract: five writes, one after the other.
use Rattle.rules_store.specs.Word.{put_running}
use Rattle.store_words.proofs.word.put_running.Goals as goal

pub returns : goal.returns
unfolding put_running
returns c = rw (c.put-5.ensures, c.put-4.ensures, c.put-3.ensures, c.put-2.ensures, c.put.ensures)
