-- `put_all` meets its contract. The invariant (`Printed`): what was printed so far, and what is left.
use Rattle.rules_numbers.specs.Bytes.{half_at}
use Prim.Native.Nat.{◌+◌}
use Rattle.rules_sessions.proofs.laws.RunLines.{least_size}
use Rattle.session_lines.proofs.Splitting.{printed_none, printed_more, printed_all}
use Rattle.rules_moves.specs.Record.{record_size}
use mathlib.Core.Path.{refl, ap, ◌∙◌}
use native.Mathlib.Omega.{arith}
use Rattle.session_lines.proofs.record.put_all.Goals as goal

pub loop-from-init : goal.loop-from-init
loop-from-init c = (omega arith, printed_none _ _ _ _, refl)

pub returns-then-n-from : goal.returns-then-n-from
returns-then-n-from c = let w = c.loop-from.invariant.1 in let g = printed_all _ _ _ _ _ _ _ w c.record_size-size.result (c.record_size-size.ensures.0 ∙ ap (record_size c.args.net.now.table.now c.args.net.now.shape) c.half_at.ensures.is) (omega arith) in (g.0, omega (arith, w.within), g.1)

pub loop-from-smaller : goal.loop-from-smaller
loop-from-smaller c = omega (arith, c.record_size-size.ensures.0, least_size c.args.net.now.table.now c.args.net.now.shape c.half_at.result)

pub loop-from-preserved : goal.loop-from-preserved
loop-from-preserved c = let w = c.loop-from.invariant.1 in let k = least_size c.args.net.now.table.now c.args.net.now.shape c.half_at.result in (omega arith, printed_more _ _ _ _ _ _ _ w c.record_size-size.result (c.record_size-size.ensures.0 ∙ ap (record_size c.args.net.now.table.now c.args.net.now.shape) c.half_at.ensures.is) _ _ (omega (arith, c.record_size-size.ensures.0)) (omega arith) c.put_line-p.ensures.0 c.put_line-p.ensures.1, omega arith)

pub returns : goal.returns
returns c = let w = c.loop-from.invariant.1 in let k = least_size c.args.net.now.table.now c.args.net.now.shape (half_at c.args.out.now (c.loop-from.from + 2)) in let g = printed_all _ _ _ _ _ _ _ w (record_size c.args.net.now.table.now c.args.net.now.shape (half_at c.args.out.now (c.loop-from.from + 2))) refl (omega arith) in (g.0, omega (arith, w.within), g.1)
