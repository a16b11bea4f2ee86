use Rattle.moves_fire.specs.Carried.{copies_from}
use Rattle.rules_moves.specs.Carry.{carried_by}
use Rattle.rules_tables.specs.Ids.{first_association, associations}
use mathlib.Core.List.{List}
use Prim.Native.Nat.{ℕ}
use Rattle.rules_walks.specs.Walk.{up_to}
use Rattle.table_index.specs.Walk.{Goes}
use lib.ListN.{length}
use mathlib.Core.Path.{◌≡◌}
use Rattle.moves_fire.proofs.copy_all.Given as goal

abbrev pub invariant-loop-j : goal.invariant-loop-j
invariant-loop-j l = Goes l.here.net.table.now (first_association l.here.net.shape) (associations l.here.net.shape) l.w.flag l.w.event l.j-iterator × (l.store ≡ up_to (λ (i : ℕ) (x : List ℕ). copies_from l.here.net.table.now l.here.net.shape (carried_by l.here.net.table.now l.here.net.shape l.w i) x) l.j-iterator.at l.initial.store) × (length l.store ≡ length l.initial.store)
