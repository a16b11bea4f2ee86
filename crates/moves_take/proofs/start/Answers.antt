-- `start` meets its contract: a START that finds the delay due leaves it.
use mathlib.Core.Path.{refl}
use native.Mathlib.Omega.{arith}
use Rattle.moves_take.proofs.Turns.{start_first, start_later}
use Rattle.moves_take.proofs.start.Goals as goal

pub returns-then-due_flag-eq0 : goal.returns-then-due_flag-eq0
returns-then-due_flag-eq0 c = start_first _ _ _ _ _ _ c.due_flag.ensures (omega (arith, c.if-due_flag-eq0.true)) c.dt_of-dt.ensures.is c.put_due.ensures

pub returns-else-due_flag-eq0 : goal.returns-else-due_flag-eq0
returns-else-due_flag-eq0 c = start_later _ _ _ _ _ _ c.due_flag.ensures c.if-due_flag-eq0.false refl
