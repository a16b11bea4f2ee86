-- `number_in` meets its contract. The invariant (`Counted`): the characters passed are digits, and what they count.
use Rattle.session_trace.proofs.Counting.{decimal_most, counted_none, counted_fits, counted_more, number_none, number_long, number_bad, number_is}
use lib.ListN.{length}
use mathlib.Core.Path.{◌≡◌, refl, sym, ◌∙◌}
use native.Mathlib.Omega.{arith}
use borrow.Author.Rules.{rules}
use Rattle.session_trace.proofs.number.number_in.Goals as goal
use Rattle.session_trace.proofs.number.number_in.Goals.{then-size-eq0-via-then-size-eq0, then-size-eq0-via-else-size-eq0+then-size-gt-MOST}

pub returns-then-size-eq0 : goal.returns-then-size-eq0
returns-then-size-eq0 c = elim c.then-size-eq0.branch [ then-size-eq0-via-then-size-eq0 w ↦ number_none _ w.if-size-eq0.true | then-size-eq0-via-else-size-eq0+then-size-gt-MOST w ↦ number_long _ w.if-size-eq0.false w.if-size-gt-MOST.true ]

pub loop-c-init : goal.loop-c-init
loop-c-init c = counted_none _

pub returns-then-not-is_decimal : goal.returns-then-not-is_decimal
returns-then-not-is_decimal c = number_bad _ c.if-size-eq0.false (omega arith) c.loop-c-test.true refl (sym c.is_decimal.ensures ∙ c.if-not-is_decimal.true)

pub overflow_mul-n : goal.overflow_mul-n
overflow_mul-n c = let h = counted_fits _ c.loop-c.invariant (omega arith) in omega arith

pub overflow_sub-c : goal.overflow_sub-c
overflow_sub-c c = let h = decimal_most _ (sym c.is_decimal.ensures ∙ c.if-not-is_decimal.false) in let l = h.0 in omega arith

pub overflow_add-n : goal.overflow_add-n
overflow_add-n c = let h = counted_fits _ c.loop-c.invariant (omega arith) in let m = decimal_most _ (sym c.is_decimal.ensures ∙ c.if-not-is_decimal.false) in let l = m.1 in omega arith

pub loop-c-preserved : goal.loop-c-preserved
loop-c-preserved c = counted_more _ c.loop-c.invariant refl (sym c.is_decimal.ensures ∙ c.if-not-is_decimal.false) (search rules)

pub returns : goal.returns
returns c = let e : length c.args.word.now ≡ c.loop-c.c-index = omega arith in number_is _ c.if-size-eq0.false (omega arith) e c.loop-c.invariant
