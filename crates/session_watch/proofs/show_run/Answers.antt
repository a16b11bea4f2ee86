-- `show_run` is safe and ends: a piece that is followed by another has made moves, so less of the budget is left. The invariant: what is left of the output, and that no more frames were read than are asked for.
use Rattle.session_trace.proofs.laws.Pieces.{goes_moves}
use borrow.Rule.Slice.PartMut.{same_len_mid}
use mathlib.Core.Path.{sym, ◌∙◌}
use native.Mathlib.Omega.{arith}
use Prim.Native.Nat.{ℕ, ◌-◌}
use Rattle.session_watch.proofs.show_run.Goals as goal

pub overflow_add-seen : goal.overflow_add-seen
overflow_add-seen c = let g = c.ranges.frames in omega (arith, c.show_piece-p.ensures.1.shown_most)

pub overflow_sub-left : goal.overflow_sub-left
overflow_sub-left c = omega (arith, c.show_piece-p.ensures.0.moves_most)

pub overflow_add-from : goal.overflow_add-from
overflow_add-from c = omega (arith, c.show_piece-p.ensures.0.bytes_most)

pub loop-out-smaller : goal.loop-out-smaller
loop-out-smaller c = omega (arith, c.show_piece-p.ensures.0.moves_most, goes_moves _ (sym c.goes_on.ensures ∙ c.if-not-goes_on.false))

pub loop-out-preserved : goal.loop-out-preserved
loop-out-preserved c = (omega (arith, c.show_piece-p.ensures.0.bytes_most), same_len_mid {X = ℕ} c.loop-out.from (4096 - c.loop-out.from) c.loop-out.out c.show_piece-p.new.out c.out-in-loop-out-1.given ∙ c.loop-out.invariant.1, omega (arith, c.show_piece-p.ensures.1.shown_most), omega arith, omega arith)
