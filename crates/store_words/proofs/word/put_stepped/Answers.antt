-- `put_stepped` meets its contract: the other words stay as they are (`only_step`).
use Rattle.store_words.proofs.laws.Running.{only_step}
use Rattle.store_words.proofs.word.put_stepped.Goals as goal

pub returns : goal.returns
returns c = rw (c.put.ensures, c.stepped-next.ensures) (only_step _ c.requires.0)
