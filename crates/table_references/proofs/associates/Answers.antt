-- Each return is the definition with the flag's test and the joined event put in. The event whose owner is read exists, since the join passed.
use Rattle.rules_tables.specs.Reference.{associates}
use Rattle.table_references.proofs.Owned.{joined_exists}
use borrow.Author.Tests.{eq-eqb, ne_eqb}
use mathlib.Core.Path.{sym, ◌∙◌}
use Rattle.table_references.proofs.associates.Goals as goal

pub returns-then-flag-eq-OF_INPUT : goal.returns-then-flag-eq-OF_INPUT
unfolding associates
returns-then-flag-eq-OF_INPUT c = rw (← c.flag.ensures.0, eq-eqb _ _ c.if-flag-eq-OF_INPUT.true) c.joins.ensures

pub owner-requires : goal.owner-requires
owner-requires c = rw c.field.ensures.0 (joined_exists _ _ 3 1 (sym c.joins-2.ensures ∙ c.if-joins.true))

pub returns-then-joins : goal.returns-then-joins
unfolding associates
returns-then-joins c = rw (← c.flag.ensures.0, ne_eqb _ _ c.if-flag-eq-OF_INPUT.false, ← c.joins-2.ensures, c.if-joins.true, ← c.field.ensures.0, ← c.owner.ensures.0, ← c.sort_is.ensures)

pub returns-else-joins : goal.returns-else-joins
unfolding associates
returns-else-joins c = rw (← c.flag.ensures.0, ne_eqb _ _ c.if-flag-eq-OF_INPUT.false, ← c.joins-2.ensures, c.if-joins.false)
