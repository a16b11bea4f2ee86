-- `tell_arrival` meets its contract: the call, then its line.
use Rattle.session_dialogue.proofs.Telling.{told_arrival, told_calm}
use native.Mathlib.Omega.{arith}
use mathlib.Core.Path.{refl}
use Rattle.session_dialogue.proofs.told.tell_arrival.Goals as goal

pub returns : goal.returns
returns c = (λ l. told_arrival _ _ c.tell.ensures.0 _ _ _ _ _ _ _ l c.stretch.ensures c.args.a.number _ _ _ c.stretch-2.ensures c.arrival-answer.ensures refl (c.tell.ensures.1, refl), told_calm _ _ c.tell.ensures.0 25 (omega arith))
