use Rattle.rules_walks.specs.All.{all_to}
use Rattle.rules_tables.specs.Fresh.{eight_at_most}
use Rattle.table_network.specs.Counted.{Counted}
use Rattle.table_network.specs.Keys.{slot_of, slotted}
use Rattle.table_network.specs.Known.{Stretch}
use Rattle.table_network.specs.Windows.{in_window}
use lib.ListN.{length}
use mathlib.Core.Bool.{true}
use mathlib.Core.Path.{◌≡◌}
use Rattle.table_network.proofs.eight.Eight.window_end.Given as goal

abbrev pub invariant-loop-f : goal.invariant-loop-f
invariant-loop-f l =
    let T = l.self.front.kinds.table.now in
    Stretch T 5 l.n l.lo l.hi × (length l.counts ≡ length l.initial.counts) × Counted (slotted T l.self.inputs l.b) l.counts l.f
    × (all_to (in_window (eight_at_most T) (slot_of T l.self.inputs) l.b (length l.initial.counts)) l.f ≡ true)
