-- `put_digits` meets its contract. The invariant: the digits of the bytes passed are written.
use Rattle.lines.proofs.Printing.{digits_none, pair_more}
use mathlib.Core.Path.{refl}
use native.Mathlib.Omega.{arith}
use Rattle.lines.proofs.text.put_digits.Goals as goal

pub loop-i-init : goal.loop-i-init
loop-i-init c = (digits_none c.args.bytes.now _ _, refl)

pub loop-i-preserved : goal.loop-i-preserved
loop-i-preserved c = (pair_more _ _ _ _ _ _ _ c.loop-i-test.true refl c.loop-i.invariant.0 c.put_pair.ensures, omega arith)
