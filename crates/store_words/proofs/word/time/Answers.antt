-- `time` meets its contract by that of `word`.
use Rattle.rules_store.specs.Word.{now_of}
use Rattle.store_words.proofs.word.time.Goals as goal

pub returns : goal.returns
unfolding now_of
returns c = c.word.ensures
