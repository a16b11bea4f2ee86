-- `put_differing` meets its contract.
use mathlib.Core.Path.{sym}
use Rattle.moves_tell.proofs.laws.Told.{room_same, differing_same, differing_other}
use Rattle.moves_tell.proofs.laws.Taped.{taped_none, taped_same}
use Rattle.moves_tell.proofs.tape.Tape.put_differing.Goals as goal

pub put-requires : goal.put-requires
put-requires c = (c.requires.0, room_same (differing_other _ c.if-before-e.true) c.requires.1)

pub returns-then-before-e : goal.returns-then-before-e
returns-then-before-e c = taped_same (sym (differing_other _ c.if-before-e.true)) c.put.ensures

pub returns-else-before-e : goal.returns-else-before-e
returns-else-before-e c = taped_same (sym (differing_same _ c.if-before-e.false)) (taped_none _)
