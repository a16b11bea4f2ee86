-- The tables lie within the bytes of all frames.
use mathlib.Core.Path.{sym}
use native.Mathlib.Omega.{arith}
use lib.Seq.{length-take-le}
use Rattle.cases_main.proofs.ask.outcome.Goals as goal

pub slice_bounds-outcome_on-end : goal.slice_bounds-outcome_on-end
slice_bounds-outcome_on-end c = sym (length-take-le 300 c.tables-t.result (omega (arith, c.tables-t.ensures)))

pub slice_bounds-outcome_on-end-in-1 : goal.slice_bounds-outcome_on-end-in-1
slice_bounds-outcome_on-end-in-1 c = sym (length-take-le 312 c.tables-t.result (omega (arith, c.tables-t.ensures)))
