use Rattle.rules_moves.specs.Partner.{partner_output}
use Rattle.moves_fire.proofs.Turns.{partner_one, partner_missing}
use Rattle.moves_fire.proofs.partner.partner_output.Goals as goal

pub returns-then-o-outputs : goal.returns-then-o-outputs
unfolding partner_output
returns-then-o-outputs c = partner_one _ _ _ _ _ _ c.output_partner-o.ensures c.outputs.ensures c.if-o-outputs.true

pub returns-else-o-outputs : goal.returns-else-o-outputs
unfolding partner_output
returns-else-o-outputs c = partner_missing _ _ _ _ _ _ c.output_partner-o.ensures c.outputs.ensures c.if-o-outputs.false
