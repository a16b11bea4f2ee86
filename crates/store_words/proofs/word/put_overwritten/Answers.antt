-- `put_overwritten` meets its contract by that of `put`.
use Rattle.rules_store.specs.Word.{put_overwritten}
use Rattle.store_words.proofs.word.put_overwritten.Goals as goal

pub returns : goal.returns
unfolding put_overwritten
returns c = c.put.ensures
