-- `count` meets its contract: the frames up to a kind are those below it and those of it (`below_next`).
use Rattle.rules_tables.proofs.laws.Places.{below_next}
use Rattle.rules_tables.specs.Frame.{frames_of}
use native.Mathlib.Omega.{arith}
use Prim.Native.Nat.{◌+◌}
use Rattle.table_frames.proofs.kinds.Kinds.count.Goals as goal

pub overflow_sub-result : goal.overflow_sub-result
overflow_sub-result c =
    let s = c.args.self.now in
    let T = s.table.now in
    let k = c.number-k.result in
    let l = c.number-k.ensures.1 in
    omega (arith, s.starting.starts k (omega arith), s.starting.starts (k + 1) (omega arith), below_next T k (frames_of T))

pub returns : goal.returns
returns c =
    let s = c.args.self.now in
    let T = s.table.now in
    let k = c.number-k.result in
    let l = c.number-k.ensures.1 in
    rw (← c.number-k.ensures.0) (omega (arith, s.starting.starts k (omega arith), s.starting.starts (k + 1) (omega arith), below_next T k (frames_of T)))
