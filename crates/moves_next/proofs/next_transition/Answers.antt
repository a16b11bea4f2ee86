-- `next_transition` meets its contract: what was found decides.
use Rattle.moves_next.proofs.Turns.{chart_one, chart_missing}
use mathlib.Core.Path.{◌∙◌}
use Rattle.moves_next.proofs.next_transition.Goals as goal

pub returns-in_default : goal.returns-in_default
returns-in_default c = chart_missing _ _ _ _ c.state_of.ensures (c.wide-event.ensures.is ∙ c.current_event.ensures) c.find_transition.ensures c.in_default.is

pub returns : goal.returns
returns c = chart_one _ _ _ _ c.state_of.ensures (c.wide-event.ensures.is ∙ c.current_event.ensures) c.find_transition.ensures _ c.in-Some.is
