-- `put_frame` meets its contract. The invariant: the bytes passed are written.
use Rattle.lines.proofs.Reading.{frame_none, frame_more}
use lib.ListN.{length-set}
use mathlib.Core.Path.{refl}
use Rattle.lines.proofs.line.put_frame.Goals as goal

pub loop-k-init : goal.loop-k-init
loop-k-init c = (frame_none _ _ _, refl)

pub loop-k-preserved : goal.loop-k-preserved
loop-k-preserved c = (frame_more _ _ _ _ _ _ c.loop-k.invariant.0 c.byte_of.ensures refl, simp length-set c.loop-k.invariant.1)
