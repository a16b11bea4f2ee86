-- `spare` meets its contract by that of `word`.
use Rattle.rules_store.specs.Word.{spare_word}
use Rattle.store_words.proofs.word.spare.Goals as goal

pub returns : goal.returns
unfolding spare_word
returns c = rw (← c.spare_at.ensures) c.word.ensures
