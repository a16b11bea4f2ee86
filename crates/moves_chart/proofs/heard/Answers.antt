-- `heard` meets its contract: none first, then live, then the event.
use Rattle.rules_moves.specs.Chart.{heard}
use borrow.Author.Tests.{ne_eqb}
use Rattle.moves_chart.proofs.heard.Goals as goal

pub returns-then-c-eq-NONE : goal.returns-then-c-eq-NONE
unfolding heard
returns-then-c-eq-NONE c = rw c.if-c-eq-NONE.true

pub returns-then-live-eq0 : goal.returns-then-live-eq0
unfolding heard
returns-then-live-eq0 c = rw (ne_eqb _ _ c.if-c-eq-NONE.false, c.if-live-eq0.true)

pub returns : goal.returns
unfolding heard
returns c = rw (ne_eqb _ _ c.if-c-eq-NONE.false, ne_eqb _ _ c.if-live-eq0.false)
