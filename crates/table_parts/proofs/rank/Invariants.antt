use Rattle.rules_tables.specs.Owned.{belongs}
use Rattle.rules_walks.specs.Count.{count_if}
use mathlib.Core.Path.{◌≡◌}
use Prim.Native.Nat.{◌≤◌}
use Rattle.table_parts.proofs.rank.Given as goal

abbrev pub invariant-loop-i : goal.invariant-loop-i
invariant-loop-i l = (l.c ≡ count_if (belongs l.t l.first l.g l.x) l.i) × (l.c ≤ l.i)
