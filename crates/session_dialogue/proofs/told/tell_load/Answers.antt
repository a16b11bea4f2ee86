-- `tell_load` meets its contract: the call and its line; a table that is too long is refused, and so is what the buffer holds of it.
use Rattle.session_dialogue.proofs.Telling.{told_load, told_calm}
use native.Mathlib.Omega.{arith}
use mathlib.Core.Path.{refl}
use Rattle.session_dialogue.proofs.told.tell_load.Goals as goal

pub returns : goal.returns
returns c = (λ T W h l. told_load _ _ c.tell.ensures.0 _ _ _ W _ _ _ l c.stretch.ensures T h c.load-a.ensures c.after_load.ensures (c.tell.ensures.1, refl), told_calm _ _ c.tell.ensures.0 25 (omega arith))
