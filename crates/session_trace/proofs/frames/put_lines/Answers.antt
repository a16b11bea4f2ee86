-- `put_lines` meets its contract. The invariant (`Lined`): the lines of the frames passed are written.
use Rattle.session_trace.proofs.Lining.{lined_none, lined_more, lined_all}
use mathlib.Core.Path.{refl}
use native.Mathlib.Omega.{arith}
use Rattle.session_trace.proofs.frames.put_lines.Goals as goal

pub loop-k-init : goal.loop-k-init
loop-k-init c = (lined_none _ _ _, refl)

pub loop-k-preserved : goal.loop-k-preserved
loop-k-preserved c = (lined_more _ _ _ _ _ _ _ _ c.loop-k-test.true c.loop-k.invariant.0 c.put_line-p.ensures, omega arith)

pub returns : goal.returns
returns c = lined_all _ _ _ _ _ _ _ refl (omega arith) (omega arith) c.loop-k.invariant.0
