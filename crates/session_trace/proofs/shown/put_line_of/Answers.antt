-- `put_line_of` meets its contract: what the calls print, one after another, is the line.
use native.Mathlib.Omega.{arith}
use Rattle.session_trace.proofs.Printing.{prints_is}
use Rattle.session_trace.proofs.Showing.{element_told}
use Rattle.session_trace.proofs.shown.put_line_of.Goals as goal

pub returns : goal.returns
returns c = let h = c.sort_word.ensures.1 in element_told _ _ _ c.flag-sort.ensures.0 c.put_word-named.ensures c.put_number-numbered.ensures c.put_word-apart.ensures (prints_is _ c.sort_word.ensures.0 (omega arith) c.put_word-sorted.ensures) c.put_state-told.ensures c.put_word.ensures
