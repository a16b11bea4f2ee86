-- `spare_at` meets its contract by its one sum.
use mathlib.Core.Path.{refl}
use Rattle.rules_store.specs.Word.{spare_at}
use Rattle.store_words.proofs.word.spare_at.Goals as goal

pub returns : goal.returns
unfolding spare_at
returns c = refl
