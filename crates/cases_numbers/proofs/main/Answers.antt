-- `main` meets its contract: every row can be asked and is answered as it should be (`young`, `right`, `rightly_told`). The invariant bounds the row's number, and the measure is how many rows are left.
use mathlib.Core.Path.{ap, ◌∙◌}
use borrow.Author.Tests.{eq-eqb}
use Rattle.cases_numbers.specs.declared.Told.{Told}
use Rattle.cases_numbers.proofs.laws.Rows.{young, right, rightly_told}
use Rattle.cases_numbers.proofs.main.Goals as goal

pub answer-told-requires : goal.answer-told-requires
answer-told-requires c = rw c.row_at-row.ensures (young c.loop-i.i c.loop-i-test.true)

pub expect-requires : goal.expect-requires
expect-requires c = eq-eqb _ _ (ap (λ (t : Told). t.0) c.answer-told.ensures ∙ rw c.row_at-row.ensures (right c.loop-i.i c.loop-i-test.true))

pub expect-requires-in-loop-i : goal.expect-requires-in-loop-i
expect-requires-in-loop-i c = eq-eqb _ _ (ap (λ (t : Told). t.1) c.answer-told.ensures ∙ rw c.row_at-row.ensures (rightly_told c.loop-i.i c.loop-i-test.true))
