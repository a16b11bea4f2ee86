-- `answer` meets its contract: each way of asking is answered by the function whose contract cites the definition.
use mathlib.Core.Path.{◌∙◌, sym}
use Rattle.cases_numbers.specs.Rows.{answered}
use Rattle.cases_numbers.proofs.laws.Rows.{else_ticks}
use Rattle.cases_numbers.proofs.answer.Goals as goal

pub returns-in-0 : goal.returns-in-0
unfolding answered
returns-in-0 c = rw c.in-0.is c.operated.ensures

pub returns-in_default : goal.returns-in_default
unfolding answered
returns-in_default c =
    let row = c.args.row in
    (λ i. (c.ticks.ensures.is i, 1)) ∙ sym (else_ticks row.0 row.1 row.2 row.3 row.4 c.in_default.in_default-own.rest.1)
