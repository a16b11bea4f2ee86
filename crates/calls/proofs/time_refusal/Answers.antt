-- `time_refusal` meets its contract: 7 before 8.
use Rattle.rules_calls.specs.Refusals.{time_refusal}
use Rattle.calls.proofs.time_refusal.Goals as goal

pub returns-then-wrong_time : goal.returns-then-wrong_time
unfolding time_refusal
returns-then-wrong_time c = rw (← c.wrong_time.ensures, c.if-wrong_time.true) c.refuse.ensures

pub returns-then-beyond_due : goal.returns-then-beyond_due
unfolding time_refusal
returns-then-beyond_due c = rw (← c.wrong_time.ensures, c.if-wrong_time.false, ← c.beyond_due.ensures, c.if-beyond_due.true) c.refuse-then-beyond_due.ensures

pub returns : goal.returns
unfolding time_refusal
returns c = rw (← c.wrong_time.ensures, c.if-wrong_time.false, ← c.beyond_due.ensures, c.if-beyond_due.false)
