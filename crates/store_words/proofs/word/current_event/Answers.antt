-- `current_event` meets its contract by that of `word`.
use Rattle.rules_store.specs.Word.{current_event}
use Rattle.store_words.proofs.word.current_event.Goals as goal

pub returns : goal.returns
unfolding current_event
returns c = c.word.ensures
