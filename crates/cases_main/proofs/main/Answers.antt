-- Every row fits the program's buffers (`row_fits`). The invariant bounds the row's number and the count, and the measure is how many rows are left.
use Rattle.cases_main.proofs.laws.Rows.{row_fits}
use Rattle.cases_main.proofs.main.Goals as goal

pub outcome-out-requires : goal.outcome-out-requires
outcome-out-requires c = rw c.row_at-row.ensures (row_fits c.loop-i.i c.loop-i-test.true)
