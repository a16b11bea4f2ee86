-- `stays` meets its contract: nothing was due, another one is the earliest, or one behind is.
use mathlib.Core.Path.{sym, ◌∙◌}
use native.Mathlib.Omega.{arith}
use Rattle.store_words.proofs.laws.Due.{another_found}
use Rattle.store_words.proofs.due.stays.Goals as goal

pub returns-then-next-eq0 : goal.returns-then-next-eq0
returns-then-next-eq0 c = λ _ e. absurd (omega (arith, c.if-next-eq0.true))

pub returns-then-not-due_at : goal.returns-then-not-due_at
returns-then-not-due_at c = λ _. another_found _ _ c.requires.2 _ c.requires.1 c.requires.3 (sym c.due_at.ensures ∙ c.if-not-due_at.true)

pub returns : goal.returns
returns c = λ e _. rw c.elements.ensures at (c.due_behind.ensures e)
