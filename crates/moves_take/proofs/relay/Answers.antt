use Rattle.moves_take.proofs.Turns.{relay_none, relay_one, relay_voice}
use mathlib.Core.Path.{refl}
use Rattle.moves_take.proofs.relay.Goals as goal

pub returns-in_default : goal.returns-in_default
returns-in_default c = relay_none _ _ _ _ _ _ _ _ c.pass_all.ensures c.partner_output.ensures c.in_default.is refl

pub fire_by-requires : goal.fire_by-requires
fire_by-requires c = relay_voice _ _ _ _ c.requires.0 c.requires.1 c.partner_output.ensures c.in-Some.is

pub returns : goal.returns
returns c = relay_one _ _ _ _ _ _ _ _ _ c.pass_all.ensures c.partner_output.ensures c.in-Some.is c.fire_by.ensures
