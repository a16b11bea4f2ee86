-- `put_variable` meets its contract: what the calls print, one after another, is the line.
use native.Mathlib.Omega.{arith}
use Rattle.session_trace.proofs.Printing.{prints_is}
use Rattle.session_trace.proofs.Showing.{variable_told}
use Rattle.session_trace.proofs.shown.put_variable.Goals as goal

pub returns : goal.returns
returns c = let h = c.role_word.ensures.1 in variable_told _ _ _ _ c.variable_frame.ensures.is c.flag-role.ensures.0 c.value_of-value.ensures (prints_is _ c.role_word.ensures.0 (omega arith) c.put_word-named.ensures) c.put_number-numbered.ensures c.put_word-set.ensures c.put_signed-told.ensures c.put_word.ensures
