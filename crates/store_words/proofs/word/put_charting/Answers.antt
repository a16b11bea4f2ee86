-- `put_charting` meets its contract: the other words stay as they are (`only_mode`).
use Rattle.store_words.proofs.laws.Running.{only_mode}
use Rattle.store_words.proofs.word.put_charting.Goals as goal

pub returns : goal.returns
returns c = rw (c.put.ensures, c.charting-next.ensures) (only_mode _ c.requires)
