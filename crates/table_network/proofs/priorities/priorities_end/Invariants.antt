use Rattle.rules_walks.specs.All.{all_to}
use Rattle.numbers_bits.specs.Marked.{Marked}
use Rattle.rules_tables.specs.Fresh.{fresh}
use Rattle.table_network.specs.Keys.{filtered}
use Rattle.table_network.specs.Known.{Stretch}
use mathlib.Core.Bool.{true}
use mathlib.Core.Path.{◌≡◌}
use Rattle.table_network.proofs.priorities.priorities_end.Given as goal

abbrev pub invariant-loop-f : goal.invariant-loop-f
invariant-loop-f l = Stretch l.t 1 l.front.n 0 l.hi × Marked (filtered l.t) 64 l.set l.f × (all_to (fresh 1 l.t) l.f ≡ true)
