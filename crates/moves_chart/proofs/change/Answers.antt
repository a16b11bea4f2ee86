-- `change` meets its contract: the state first, then the running block, which the state leaves.
use Rattle.rules_moves.specs.Chart.{change}
use Rattle.store_words.proofs.laws.Running.{chart_runs}
use Rattle.moves_chart.proofs.change.Goals as goal

pub put_entered-requires : goal.put_entered-requires
put_entered-requires c = chart_runs _ _ _ c.put_chart_state.ensures c.requires.1

pub returns : goal.returns
unfolding change
returns c = rw (c.put_entered.ensures, c.put_chart_state.ensures, c.action_number-action.ensures, c.field-to.ensures.0, c.transition_frame.ensures.is, c.element_of-el.ensures.is)
