-- `next_due` meets its contract: two words.
use Rattle.rules_store.specs.Word.{next_due}
use Rattle.store_words.proofs.word.next_due.Goals as goal

pub returns : goal.returns
unfolding next_due
returns c = rw (c.word.ensures, c.word-2.ensures)
