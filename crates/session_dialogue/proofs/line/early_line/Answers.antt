-- `early_line` meets its contract: the line ends the table, or is one of its frames.
use Rattle.session_dialogue.proofs.Telling.{took_is, calm_more, opens_load, opens_not}
use native.Mathlib.Omega.{arith}
use Rattle.session_dialogue.proofs.line.early_line.Goals as goal

pub returns-then-opens : goal.returns-then-opens
returns-then-opens c = (λ T w. took_is (opens_load T _ _ c.opens.ensures c.if-opens.true) (c.opening_line.ensures.0 T w.table_is w.room), c.opening_line.ensures.1)

pub returns : goal.returns
returns c = (λ T w. took_is (opens_not T _ _ c.opens.ensures c.if-opens.false) (c.table_line.ensures.0 T _ _ w), calm_more {m = 25} {n = 12338} (omega arith) c.table_line.ensures.1)
