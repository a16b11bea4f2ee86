use Rattle.rules_walks.specs.Held.{held_to}
use Rattle.rules_tables.specs.Fresh.{eight_at_most}
use Rattle.table_network.specs.Keys.{slot_of}
use Rattle.table_network.specs.Windows.{under_key}
use lib.ListN.{length}
use mathlib.Core.Path.{◌≡◌}
use Prim.Native.Nat.{◌≤◌, ◌-◌, ◌+◌}
use Rattle.table_network.proofs.eight.Eight.end.Given as goal

abbrev pub invariant-loop-b : goal.invariant-loop-b
invariant-loop-b l =
    let T = l.self.front.kinds.table.now in
    (l.b ≤ l.self.slots + 2048) × (length l.counts ≡ length l.initial.counts) × (l.e ≤ l.self.front.n) × (l.e ≡ held_to (under_key (eight_at_most T) (slot_of T l.self.inputs) l.b) l.self.front.n)

abbrev pub decreases-loop-b : goal.decreases-loop-b
decreases-loop-b l = l.self.slots - l.b
