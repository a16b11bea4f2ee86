-- `transition_size` meets its contract: the chart state, then the transition.
use Rattle.moves_tell.proofs.laws.Sized.{sized_one, sized_same, sized_then, sized_differing_not, sized_differing}
use Rattle.moves_tell.proofs.Telling.{change_is}
use Rattle.moves_tell.proofs.sizes.transition_size.Goals as goal

pub returns-then-chart_state-to : goal.returns-then-chart_state-to
returns-then-chart_state-to c = sized_then (sized_same (change_is _ _ _ _ c.element_of.ensures.is c.chart_state.ensures c.transition_frame.ensures.is c.field-to.ensures.0) (sized_differing_not _ _ _ c.if-chart_state-to.true)) (sized_one _)

pub returns-else-chart_state-to : goal.returns-else-chart_state-to
returns-else-chart_state-to c = sized_then (sized_same (change_is _ _ _ _ c.element_of.ensures.is c.chart_state.ensures c.transition_frame.ensures.is c.field-to.ensures.0) (sized_differing _ _ _ c.if-chart_state-to.false)) (sized_one _)
