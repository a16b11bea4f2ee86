-- `put_numbers` meets its contract: the frame is written part by part, then printed.
use Rattle.session_lines.proofs.Printing.{frame_told, numbers_printed}
use Rattle.session_lines.proofs.answer.put_numbers.Goals as goal

pub returns : goal.returns
returns c = numbers_printed _ _ _ _ _ _ _ _ _ _ (frame_told _ _ _ _ _ _ _ _ _ c.put_half.ensures c.put_word.ensures c.put_half-2.ensures c.put_half-3.ensures) c.put_line.ensures
