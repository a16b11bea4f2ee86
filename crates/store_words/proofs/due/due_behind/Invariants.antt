use Prim.Native.Nat.{◌<◌}
use Rattle.store_words.proofs.due.due_behind.Given as goal

abbrev pub invariant-loop-k : goal.invariant-loop-k
invariant-loop-k l = l.el < l.k
