use Rattle.rules_walks.specs.All.{all_to}
use Rattle.numbers_bits.specs.Marked.{Marked}
use Rattle.rules_tables.specs.Fresh.{fresh}
use Rattle.table_frames.specs.Kind.{kind_number}
use Rattle.table_network.specs.Keys.{key_at, keyed}
use Rattle.table_network.specs.Known.{Stretch}
use Rattle.table_network.specs.Windows.{in_window}
use lib.ListN.{length}
use mathlib.Core.Bool.{true}
use mathlib.Core.Path.{◌≡◌}
use Prim.Native.Nat.{◌*◌}
use Rattle.table_network.proofs.fresh.Fresh.window_end.Given as goal

abbrev pub invariant-loop-f : goal.invariant-loop-f
invariant-loop-f l =
    let T = l.self.front.kinds.table.now in
    let k = kind_number l.self.kind in
    Stretch T k l.n l.lo l.hi × Marked (keyed k T l.self.ys l.b) (length l.initial.set) l.set l.f
    × (all_to (in_window (fresh k T) (key_at k T l.self.ys) l.b (32 * length l.initial.set)) l.f ≡ true)
