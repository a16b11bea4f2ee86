-- `input_at` meets its contract by definition.
use borrow.Author.Rules.{rules}
use Rattle.rules_store.specs.Layout.{input_at}
use Rattle.store_words.proofs.word.input_at.Goals as goal

pub returns : goal.returns
unfolding input_at
returns c = search rules
