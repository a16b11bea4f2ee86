-- `due_behind` meets its contract: the element that it stops at is the one.
use Rattle.rules_walks.proofs.laws.Pick.{clash}
use Rattle.store_words.proofs.laws.Due.{behind_found}
use Rattle.store_words.proofs.due.due_behind.Goals as goal

pub returns-then-due_at : goal.returns-then-due_at
returns-then-due_at c = λ _. behind_found _ _ _ _ _ c.loop-k.invariant c.loop-k-test.true c.due_at.ensures c.if-due_at.true

pub returns : goal.returns
returns c = λ e. clash e
