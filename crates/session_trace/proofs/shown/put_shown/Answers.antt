-- `put_shown` meets its contract: the first line, then the elements.
use Rattle.session_trace.proofs.Walking.{shown_printed}
use native.Mathlib.Omega.{arith}
use Rattle.session_trace.proofs.shown.put_shown.Goals as goal

pub put_elements-requires : goal.put_elements-requires
put_elements-requires c = let h₁ = c.put_word-named.ensures.room in let h₂ = c.put_number-numbered.ensures.room in let h₃ = c.put_word-from.ensures.room in omega arith

pub returns : goal.returns
returns c = shown_printed _ _ _ _ c.put_word-named.ensures c.put_number-numbered.ensures c.put_word-from.ensures c.put_elements.ensures
