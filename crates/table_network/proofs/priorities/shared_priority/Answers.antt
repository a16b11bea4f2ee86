-- `priorities::shared_priority` meets its contract: the filter tells by `filter_tells`, and grows by `filter_more`.
use Rattle.table_network.proofs.laws.Priorities.{filter_tells, filter_more}
use mathlib.Core.Path.{sym, ◌∙◌}
use Rattle.table_network.proofs.priorities.shared_priority.Goals as goal

pub returns-then-mark : goal.returns-then-mark
returns-then-mark c = let a = c.args in
    (c.priority_before.ensures, rw c.mark.ensures.1 (filter_more a.t.now a.f _ a.set.now c.field-p.ensures.0 c.requires.1))

pub returns-else-mark : goal.returns-else-mark
returns-else-mark c = let a = c.args in (
  c.if-mark.false ∙ filter_tells a.t.now a.f _ a.set.now c.field-p.ensures.0 c.requires.1 (sym c.mark.ensures.0 ∙ c.if-mark.false),
  rw c.mark.ensures.1 (filter_more a.t.now a.f _ a.set.now c.field-p.ensures.0 c.requires.1),
)
