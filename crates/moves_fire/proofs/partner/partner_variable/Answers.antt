use Rattle.rules_moves.specs.Partner.{partner_variable}
use Rattle.moves_fire.proofs.Turns.{partner_one, partner_missing}
use Rattle.moves_fire.proofs.partner.partner_variable.Goals as goal

pub returns-then-u-variables : goal.returns-then-u-variables
unfolding partner_variable
returns-then-u-variables c = partner_one _ _ _ _ _ _ c.variable_partner-u.ensures c.variables.ensures c.if-u-variables.true

pub returns-else-u-variables : goal.returns-else-u-variables
unfolding partner_variable
returns-else-u-variables c = partner_missing _ _ _ _ _ _ c.variable_partner-u.ensures c.variables.ensures c.if-u-variables.false
