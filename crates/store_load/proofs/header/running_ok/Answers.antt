-- `running_ok` meets its contract: an owner that is right has an element.
use mathlib.Core.Path.{sym, ◌∙◌}
use borrow.Author.Rules.{rules}
use Rattle.store_load.proofs.Turns.{owner_some}
use Rattle.store_load.proofs.header.running_ok.Goals as goal
use Rattle.store_load.proofs.header.running_ok.Goals.{then-owner_ok, else-owner_ok}

pub overflow_sub-e : goal.overflow_sub-e
overflow_sub-e c = elim c.if-owner_ok.branch [ then-owner_ok w ↦ owner_some _ _ _ _ (sym c.owner_ok.ensures ∙ w.if-owner_ok.true) | else-owner_ok w ↦ search rules ]
