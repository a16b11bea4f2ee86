-- `beyond_due` meets its contract: what is next due answers for all.
use borrow.Author.Tests.{eq-eqb, ne_eqb}
use Rattle.rules_calls.proofs.laws.Due.{beyond_stored}
use Rattle.calls_run.proofs.calls.beyond_due.Goals as goal

pub returns-then-next-ne0 : goal.returns-then-next-ne0
returns-then-next-ne0 c = rw (beyond_stored _ _ c.requires _, ← c.next_due-next.ensures, ne_eqb _ _ c.if-next-ne0.true)

pub returns-else-next-ne0 : goal.returns-else-next-ne0
returns-else-next-ne0 c = rw (beyond_stored _ _ c.requires _, ← c.next_due-next.ensures, eq-eqb _ _ c.if-next-ne0.false)
