-- `starts` meets its contract. The invariant: the entries up to k are the starts (`next_start`).
use Rattle.rules_tables.proofs.laws.Places.{below_next, below_none, below_le, next_start}
use Rattle.rules_tables.specs.Frame.{frames_of}
use lib.ListN.{length-set}
use mathlib.Core.Path.{◌≡◌, refl, sym}
use Rattle.std.proofs.Common.{rules}
use native.Mathlib.Omega.{arith}
use Prim.Native.Nat.{◌+◌}
use Rattle.table_frames.proofs.place.starts.Goals as goal

pub loop-k-init : goal.loop-k-init
loop-k-init c = (refl, (λ j h. let e : j ≡ 0 = omega arith in rw e (sym (below_none c.args.t.now (frames_of c.args.t.now)))))

pub overflow_add-s : goal.overflow_add-s
overflow_add-s c =
    let l = c.loop-k in
    let T = c.args.t.now in
    rw (l.invariant.1 l.k (omega arith), c.from.ensures, c.counts-c.ensures.at l.k c.loop-k-test.true)
    (omega (arith, below_next T l.k (frames_of T), below_le T (l.k + 1) (frames_of T)))

pub loop-k-preserved : goal.loop-k-preserved
loop-k-preserved c =
    let l = c.loop-k in
    (simp length-set l.invariant.0, next_start c.args.t.now l.s c.counts-c.result l.k c.from.result c.loop-k-test.true l.invariant.0 l.invariant.1 c.counts-c.ensures (search rules))
