-- `tell_run` meets its contract: the call on a cleared output buffer, then its records and its answer.
use Rattle.session_dialogue.proofs.Telling.{told_run, told_calm}
use native.Mathlib.Omega.{arith}
use mathlib.Core.Path.{refl}
use Rattle.session_dialogue.proofs.told.tell_run.Goals as goal

pub returns : goal.returns
returns c = (λ W l. told_run _ _ c.told.ensures _ _ _ W _ _ _ l c.stretch-table.ensures _ _ _ c.run-a.ensures refl c.put_run-at.ensures, told_calm _ _ c.told.ensures 12313 (omega (arith, c.put_run-at.ensures.room)))
