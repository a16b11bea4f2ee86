-- `set_due` meets its contract: two writes, one after the other.
use Rattle.rules_store.specs.Word.{set_due}
use Rattle.store_words.proofs.word.set_due.Goals as goal

pub returns : goal.returns
unfolding set_due
returns c = rw (← c.element_at-at.ensures.is, c.put-2.ensures, c.put.ensures)
