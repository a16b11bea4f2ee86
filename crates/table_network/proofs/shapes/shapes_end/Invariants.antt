use Rattle.rules_walks.specs.All.{all_to}
use Rattle.rules_tables.specs.Shapes.{shape_ok}
use Rattle.table_network.specs.Known.{Stretch}
use mathlib.Core.Bool.{true}
use mathlib.Core.Path.{◌≡◌}
use Rattle.table_network.proofs.shapes.shapes_end.Given as goal

abbrev pub invariant-loop-f : goal.invariant-loop-f
invariant-loop-f l = Stretch l.t 1 l.front.n l.lo l.hi × (all_to (shape_ok l.t) l.f ≡ true)
