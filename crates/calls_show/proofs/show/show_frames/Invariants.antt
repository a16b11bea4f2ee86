use Rattle.rules_traces.specs.Reader.{readable, shown_after}
use Rattle.rules_walks.specs.All.{all_to}
use lib.ListN.{length}
use mathlib.Core.Bool.{true}
use mathlib.Core.Path.{◌≡◌}
use Prim.Native.Nat.{◌+◌, ◌*◌, ◌≤◌}
use Rattle.calls_show.proofs.show.show_frames.Given as goal

abbrev pub invariant-loop-n : goal.invariant-loop-n
invariant-loop-n l =
    (all_to (readable l.net.table.now l.net.shape l.text) l.n ≡ true) × (25 * l.n ≤ length l.text + 1) × (l.store ≡ shown_after l.net.shape l.text l.n l.initial.store) × (length l.store ≡ length l.initial.store)
