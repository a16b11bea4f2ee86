-- The length is tested as the definition tests it: not empty, whole frames, at most 4,096 of them.
use Rattle.rules_tables.specs.Judge.{length_ok}
use Rattle.std.proofs.Common.{sym, ◌∙◌}
use Rattle.rules_walks.proofs.laws.Pick.{clash}
use borrow.Author.Tests.{eq-eqb, ne_eqb}
use Rattle.table_check.proofs.length_ok.Goals as goal
use Rattle.table_check.proofs.length_ok.Goals.{then-n-ne0, else-n-ne0}

pub returns-then-n-eq0 : goal.returns-then-n-eq0
unfolding length_ok
returns-then-n-eq0 c =
    elim c.if-n-ne0.branch [
      | then-n-ne0 w ↦ rw (ne_eqb _ _ w.if-n-ne0.true, ← w.value-is, c.if-n-eq0.true)
      | else-n-ne0 w ↦ clash (rw (eq-eqb _ _ w.if-n-ne0.false) at (sym w.value-is ∙ c.if-n-eq0.true))
    ]

pub returns-else-n-eq0 : goal.returns-else-n-eq0
unfolding length_ok
returns-else-n-eq0 c =
    elim c.if-n-ne0.branch [
      | then-n-ne0 w ↦ rw (ne_eqb _ _ w.if-n-ne0.true, ← w.value-is, c.if-n-eq0.false)
      | else-n-ne0 w ↦ rw (eq-eqb _ _ w.if-n-ne0.false, c.if-n-eq0.false)
    ]
