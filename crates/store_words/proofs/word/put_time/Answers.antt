-- `put_time` meets its contract by that of `put`.
use Rattle.rules_store.specs.Word.{put_now}
use Rattle.store_words.proofs.word.put_time.Goals as goal

pub returns : goal.returns
unfolding put_now
returns c = c.put.ensures
