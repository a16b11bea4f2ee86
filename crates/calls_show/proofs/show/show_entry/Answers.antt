-- `show_entry` meets its contract, by the kind of the entry.
use Rattle.calls_show.proofs.Turns.{show_chart, show_value, show_none}
use Rattle.calls_show.proofs.show.show_entry.Goals as goal

pub returns-then-e-eq-CHART_KIND : goal.returns-then-e-eq-CHART_KIND
returns-then-e-eq-CHART_KIND c = show_chart _ _ _ c.if-e-eq-CHART_KIND.true c.put_chart_state.ensures

pub returns-then-e-lt-STARTED_KIND : goal.returns-then-e-lt-STARTED_KIND
returns-then-e-lt-STARTED_KIND c = show_value _ _ _ c.if-e-eq-CHART_KIND.false c.if-e-lt-STARTED_KIND.true c.put_value.ensures

pub returns-else-e-lt-STARTED_KIND : goal.returns-else-e-lt-STARTED_KIND
returns-else-e-lt-STARTED_KIND c = show_none _ _ _ c.if-e-eq-CHART_KIND.false c.if-e-lt-STARTED_KIND.false
