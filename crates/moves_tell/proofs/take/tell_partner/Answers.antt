-- `tell_partner` meets its contract: found or not.
use mathlib.Core.Path.{sym}
use Rattle.moves_tell.proofs.laws.Told.{room_same}
use Rattle.moves_tell.proofs.laws.Taped.{taped_none, taped_same}
use Rattle.moves_tell.proofs.Telling.{partner_none, partner_one, partner_below}
use Rattle.moves_tell.proofs.take.tell_partner.Goals as goal

pub partner_output-requires : goal.partner_output-requires
partner_output-requires c = c.requires.0

pub returns-in_default : goal.returns-in_default
returns-in_default c = taped_same (partner_none _ _ _ _ c.partner_output.ensures c.in_default.is) (taped_none _)

pub tell_emitted-requires : goal.tell_emitted-requires
tell_emitted-requires c = (partner_below _ _ _ _ c.partner_output.ensures c.in-Some.is, room_same (partner_one _ _ _ _ c.partner_output.ensures c.in-Some.is) c.requires.1)

pub returns-in-Some : goal.returns-in-Some
returns-in-Some c = taped_same (sym (partner_one _ _ _ _ c.partner_output.ensures c.in-Some.is)) c.tell_emitted.ensures
