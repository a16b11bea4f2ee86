-- `running_element` meets its contract by that of `word`.
use Rattle.rules_store.specs.Word.{running_element}
use Rattle.store_words.proofs.word.running_element.Goals as goal

pub returns : goal.returns
unfolding running_element
returns c = c.word.ensures
