-- `overwritten_count` meets its contract by that of `word`.
use Rattle.rules_store.specs.Word.{overwritten}
use Rattle.store_words.proofs.word.overwritten_count.Goals as goal

pub returns : goal.returns
unfolding overwritten
returns c = c.word.ensures
