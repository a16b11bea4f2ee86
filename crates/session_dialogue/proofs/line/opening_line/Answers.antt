-- `opening_line` meets its contract: the load, and then the line, unless the load was refused.
use Rattle.session_dialogue.proofs.Telling.{load_refused, load_done, calm_more, calm_then}
use native.Mathlib.Omega.{arith}
use Rattle.session_dialogue.proofs.line.opening_line.Goals as goal

pub returns-then-stopped : goal.returns-then-stopped
returns-then-stopped c = (λ T h l. load_refused T _ _ c.stopped.ensures c.if-stopped.true (c.tell_load-loaded.ensures.0 T _ h l), calm_more {m = 25} {n = 12338} (omega arith) c.tell_load-loaded.ensures.1)

pub returns : goal.returns
returns c = (λ T h l. load_done T _ _ c.stopped.ensures c.if-stopped.false (c.tell_load-loaded.ensures.0 T _ h l) c.call_line.ensures.0, calm_then c.tell_load-loaded.ensures.1 c.call_line.ensures.1)
