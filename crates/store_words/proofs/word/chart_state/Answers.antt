-- `chart_state` meets its contract by those of the place and of `word`.
use Rattle.rules_store.specs.Word.{chart_state}
use Rattle.store_words.proofs.word.chart_state.Goals as goal

pub returns : goal.returns
unfolding chart_state
returns c = rw (← c.element_at.ensures.is) c.word.ensures
