-- `put_chart_state` meets its contract by those of the place and of `put`.
use Rattle.rules_store.specs.Word.{put_chart_state}
use Rattle.store_words.proofs.word.put_chart_state.Goals as goal

pub returns : goal.returns
unfolding put_chart_state
returns c = rw (← c.element_at.ensures.is) c.put.ensures
