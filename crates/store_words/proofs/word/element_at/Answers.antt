-- `element_at` meets its contract by definition.
use borrow.Author.Rules.{rules}
use Rattle.rules_store.specs.Layout.{element_at}
use Rattle.store_words.proofs.word.element_at.Goals as goal

pub returns : goal.returns
unfolding element_at
returns c = search rules
