-- `length_refusal` meets its contract: the need is asked.
use Rattle.rules_calls.specs.Refusals.{load_refusal}
use borrow.Author.Tests.{lt-ltb, le-ltb}
use Rattle.calls.proofs.length_refusal.Goals as goal

pub returns-then-store-need : goal.returns-then-store-need
unfolding load_refusal
returns-then-store-need c = rw (← c.need.ensures, lt-ltb _ _ c.if-store-need.true) c.refuse.ensures

pub returns : goal.returns
unfolding load_refusal
returns c = rw (← c.need.ensures, le-ltb _ _ c.if-store-need.false)
