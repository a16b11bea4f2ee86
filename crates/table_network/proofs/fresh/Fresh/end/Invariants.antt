use Rattle.rules_walks.specs.Held.{held_to}
use Rattle.rules_tables.specs.Fresh.{fresh}
use Rattle.table_frames.specs.Kind.{kind_number}
use Rattle.table_network.specs.Keys.{key_at}
use Rattle.table_network.specs.Windows.{under_key}
use lib.ListN.{length}
use mathlib.Core.Path.{◌≡◌}
use Prim.Native.Nat.{◌≤◌, ◌-◌, ◌+◌}
use Rattle.table_network.proofs.fresh.Fresh.end.Given as goal

abbrev pub invariant-loop-b : goal.invariant-loop-b
invariant-loop-b l =
    let T = l.self.front.kinds.table.now in
    (l.keys ≤ 16777216) × (l.b ≤ l.keys + 65536) × (length l.set ≡ length l.initial.set) × (l.e ≤ l.self.front.n) × (l.e ≡ held_to (under_key (fresh (kind_number l.self.kind) T) (key_at (kind_number l.self.kind) T l.self.ys) l.b) l.self.front.n)

abbrev pub decreases-loop-b : goal.decreases-loop-b
decreases-loop-b l = l.keys - l.b
