-- `event_refusal` meets its contract: 9 before 10 before 11.
use Rattle.rules_calls.specs.Refusals.{event_refusal}
use borrow.Author.Tests.{lt-ltb, le-ltb, eq-eqb, ne_eqb}
use Rattle.calls.proofs.event_refusal.Goals as goal

pub returns-then-not-of_source : goal.returns-then-not-of_source
unfolding event_refusal
returns-then-not-of_source c = rw (← c.of_source.ensures, c.if-not-of_source.true) c.refuse.ensures

pub returns-then-time-birth : goal.returns-then-time-birth
unfolding event_refusal
returns-then-time-birth c = rw (← c.of_source.ensures, c.if-not-of_source.false, ← c.time.ensures, lt-ltb _ _ c.if-time-birth.true) c.refuse-then-time-birth.ensures

pub returns-then-values-value_count : goal.returns-then-values-value_count
unfolding event_refusal
returns-then-values-value_count c = rw (← c.of_source.ensures, c.if-not-of_source.false, ← c.time.ensures, le-ltb _ _ c.if-time-birth.false, ← c.value_count.ensures, ne_eqb _ _ c.if-values-value_count.true) c.refuse-then-values-value_count.ensures

pub returns : goal.returns
unfolding event_refusal
returns c = rw (← c.of_source.ensures, c.if-not-of_source.false, ← c.time.ensures, le-ltb _ _ c.if-time-birth.false, ← c.value_count.ensures, eq-eqb _ _ c.if-values-value_count.false)
