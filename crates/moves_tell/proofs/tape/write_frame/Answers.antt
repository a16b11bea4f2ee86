-- `write_frame` meets its contract: five writes, one after the other.
use Rattle.moves_tell.proofs.laws.Told.{frame_written}
use Rattle.moves_tell.proofs.tape.write_frame.Goals as goal

pub returns : goal.returns
returns c = frame_written _ _ _ _ _ _ _ _ _ _ _ c.put_kind.ensures c.put_half.ensures c.put_half-2.ensures c.put_word.ensures c.put_half-3.ensures
