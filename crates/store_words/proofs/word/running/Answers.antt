-- `running` meets its contract: five words read.
use Rattle.rules_store.specs.Word.{running_of}
use Rattle.store_words.proofs.word.running.Goals as goal

pub returns : goal.returns
unfolding running_of
returns c = rw (c.word.ensures, c.word-2.ensures, c.word-3.ensures, c.word-4.ensures, c.word-5.ensures)
