-- `trace_run` is safe and ends: a piece that is followed by another has made moves, so less of the budget is left. The invariant: the output has what is left of it.
use Rattle.session_trace.proofs.laws.Pieces.{goes_moves}
use borrow.Rule.Slice.PartMut.{same_len_mid}
use mathlib.Core.Path.{sym, ◌∙◌}
use native.Mathlib.Omega.{arith}
use Prim.Native.Nat.{ℕ, ◌-◌}
use Rattle.session_watch.proofs.trace_run.Goals as goal

pub overflow_sub-left : goal.overflow_sub-left
overflow_sub-left g c = omega (arith, c.trace_piece-p.ensures.moves_most)

pub overflow_add-from : goal.overflow_add-from
overflow_add-from g c = omega (arith, c.trace_piece-p.ensures.bytes_most)

pub loop-traced-smaller : goal.loop-traced-smaller
loop-traced-smaller g c = omega (arith, c.trace_piece-p.ensures.moves_most, goes_moves _ (sym c.goes_on.ensures ∙ c.if-not-goes_on.false))

pub loop-traced-preserved : goal.loop-traced-preserved
loop-traced-preserved g c = (omega (arith, c.trace_piece-p.ensures.bytes_most), same_len_mid {X = ℕ} c.loop-traced.from (4096 - c.loop-traced.from) c.loop-traced.out c.trace_piece-p.new.out c.out-in-loop-traced-1.given ∙ c.loop-traced.invariant.1, omega arith)
