-- `write_head` meets its contract: five writes, one after the other.
use Rattle.moves_take.proofs.Written.{head_written}
use Rattle.moves_take.proofs.record.write_head.Goals as goal

pub returns : goal.returns
returns c = head_written _ _ _ _ _ _ _ _ _ _ _ _ c.put_half.ensures c.put_half-2.ensures c.put_word.ensures c.put_word-2.ensures c.put_word-3.ensures
