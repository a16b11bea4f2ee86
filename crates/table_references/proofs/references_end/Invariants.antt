use Rattle.rules_walks.specs.All.{all_to}
use Rattle.rules_tables.specs.Reference.{refers_ok}
use Rattle.table_references.specs.Known.{Known}
use mathlib.Core.Bool.{true}
use mathlib.Core.Path.{◌≡◌}
use Rattle.table_references.proofs.references_end.Given as goal

abbrev pub invariant-loop-f : goal.invariant-loop-f
invariant-loop-f l = Known l.frames.kinds.table.now l.run × (all_to (refers_ok l.frames.kinds.table.now) l.f ≡ true)
