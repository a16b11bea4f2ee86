-- `digit_value` meets its contract: a digit is in one of the two ranges.
use Rattle.lines.proofs.Reading.{low_from, high_from, low_value, high_value}
use borrow.Author.Rules.{rules}
use native.Mathlib.Omega.{arith}
use Rattle.lines.proofs.line.digit_value.Goals as goal

pub overflow_sub-c : goal.overflow_sub-c
overflow_sub-c c = omega (arith, low_from c.args.c c.requires c.if-c-le57.true)

pub overflow_sub-c-else-c-le57 : goal.overflow_sub-c-else-c-le57
overflow_sub-c-else-c-le57 c = omega (arith, high_from c.args.c c.requires c.if-c-le57.false)

pub returns-then-c-le57 : goal.returns-then-c-le57
returns-then-c-le57 c = low_value _ c.requires (search rules) c.if-c-le57.true

pub returns-else-c-le57 : goal.returns-else-c-le57
returns-else-c-le57 c = high_value _ c.requires (search rules) c.if-c-le57.false
