-- `malformed` meets its contract: C0FF is printed, and the program stops.
use Rattle.session_dialogue.proofs.Telling.{told_malformed, told_calm}
use native.Mathlib.Omega.{arith}
use mathlib.Core.Path.{refl}
use Rattle.session_dialogue.proofs.told.malformed.Goals as goal

pub returns : goal.returns
returns c = (λ t st W. told_malformed _ _ c.told.ensures t st W _ _ c.put_malformed-at.ensures refl, told_calm _ _ c.told.ensures 25 (omega (arith, c.put_malformed-at.ensures.1)))
