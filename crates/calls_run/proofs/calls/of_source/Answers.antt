-- `of_source` meets its contract: one of the table's, then its owner's sort.
use Prim.Native.Nat.{◌<◌}
use native.Mathlib.Omega.{arith}
use borrow.Author.Tests.{lt-ltb, le-ltb}
use Rattle.rules_calls.specs.Calls.{of_source}
use Rattle.moves_take.proofs.laws.Known.{at_frame}
use Rattle.calls_run.proofs.calls.of_source.Goals as goal

pub flag-requires : goal.flag-requires
flag-requires c = let h : c.args.o < _ = rw c.outputs.ensures at c.if-o-outputs.true in let k = c.args.net.now.good.output_element c.args.o h in let g = c.args.net.now.good in omega (arith, at_frame _ 0 c.output_frame.ensures.is c.field.ensures.0)

pub returns-then-o-outputs : goal.returns-then-o-outputs
unfolding of_source
returns-then-o-outputs c = rw (← c.outputs.ensures, lt-ltb _ _ c.if-o-outputs.true, ← c.output_frame.ensures.is, ← c.field.ensures.0, ← c.flag.ensures.0)

pub returns-else-o-outputs : goal.returns-else-o-outputs
unfolding of_source
returns-else-o-outputs c = rw (← c.outputs.ensures, le-ltb _ _ c.if-o-outputs.false)
