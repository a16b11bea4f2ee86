-- `put_state` meets its contract by its test.
use Rattle.session_trace.proofs.Showing.{state_none, state_told}
use Rattle.session_trace.proofs.shown.put_state.Goals as goal

pub returns-then-sort-ne-BASIC : goal.returns-then-sort-ne-BASIC
returns-then-sort-ne-BASIC c = state_none _ _ _ c.if-sort-ne-BASIC.true

pub returns : goal.returns
returns c = state_told _ _ _ c.if-sort-ne-BASIC.false c.chart_state-state.ensures c.put_word-named.ensures c.put_number.ensures
