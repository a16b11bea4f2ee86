-- `action_number` meets its contract: found or not.
use Rattle.moves_chart.proofs.Turns.{number_one, number_missing}
use Rattle.moves_chart.proofs.action_number.Goals as goal

pub returns-in-None : goal.returns-in-None
returns-in-None c = number_missing _ _ _ _ c.wide.ensures.is c.action_of.ensures c.in-None.is

pub returns-in-Some : goal.returns-in-Some
returns-in-Some c = number_one _ _ _ _ _ c.wide.ensures.is c.action_of.ensures c.in-Some.is
