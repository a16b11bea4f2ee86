-- `put_entered` meets its contract: the birth stays as it is (`all_but_birth`).
use Rattle.store_words.proofs.laws.Running.{all_but_birth}
use Rattle.store_words.proofs.word.put_entered.Goals as goal

pub returns : goal.returns
returns c = rw (c.put-4.ensures, c.put-3.ensures, c.put-2.ensures, c.put.ensures, c.entered-next.ensures) (all_but_birth _ c.requires _)
