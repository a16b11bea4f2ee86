-- `tell_advance` meets its contract: the call, then its line.
use Rattle.session_dialogue.proofs.Telling.{told_advance, told_calm}
use native.Mathlib.Omega.{arith}
use mathlib.Core.Path.{refl}
use Rattle.session_dialogue.proofs.told.tell_advance.Goals as goal

pub returns : goal.returns
returns c = (λ W l. told_advance _ _ c.tell.ensures.0 _ _ _ W _ _ _ l c.stretch.ensures _ c.advance-a.ensures refl (c.tell.ensures.1, refl), told_calm _ _ c.tell.ensures.0 25 (omega arith))
