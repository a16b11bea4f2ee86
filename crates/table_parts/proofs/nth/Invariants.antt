use Rattle.rules_tables.specs.Owned.{belongs, is_nth}
use Rattle.rules_walks.specs.Count.{count_if}
use Rattle.rules_walks.specs.First.{first_from, first_below}
use mathlib.Core.Path.{◌≡◌}
use Prim.Native.Nat.{◌≤◌, ◌-◌}
use Rattle.table_parts.proofs.nth.Given as goal

abbrev pub invariant-loop-j : goal.invariant-loop-j
invariant-loop-j l = (l.c ≡ count_if (belongs l.t l.first l.g l.x) l.j) × (first_below (is_nth l.t l.first l.g l.x l.k) l.n ≡ first_from (is_nth l.t l.first l.g l.x l.k) l.j (l.n - l.j)) × (l.c ≤ l.j)
