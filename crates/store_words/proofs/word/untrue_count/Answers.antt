-- `untrue_count` meets its contract by that of `word`.
use Rattle.rules_store.specs.Word.{untrue}
use Rattle.store_words.proofs.word.untrue_count.Goals as goal

pub returns : goal.returns
unfolding untrue
returns c = c.word.ensures
