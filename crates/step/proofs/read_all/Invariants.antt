use Prim.Native.Nat.{◌≤◌, ◌+◌}
use Rattle.step.proofs.read_all.Given as goal

abbrev pub invariant-loop : goal.invariant-loop
invariant-loop g l = l.s.at + 12363 ≤ 65536
