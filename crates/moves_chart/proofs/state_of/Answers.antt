-- `state_of` meets its contract by those of `element_of` and `chart_state`.
use mathlib.Core.Path.{◌∙◌}
use Rattle.moves_chart.proofs.state_of.Goals as goal

pub returns : goal.returns
returns c = c.wide.ensures.is ∙ rw (← c.element_of.ensures.is) c.chart_state.ensures
