-- `divide` meets its contract: only the lowest number by -1 leaves the range, and a divisor of -1 negates; any other quotient is kept by the clip.
use mathlib.Core.Path.{◌∙◌, ap, sym}
use native.Mathlib.Omega.{arith}
use lib.Signed.{quot_z}
use mir.Facts.{to_z-of_z}
use Rattle.rules_numbers.specs.Clip.{clip, quotient}
use Rattle.rules_numbers.specs.Truth.{telling, itself, clipped}
use Rattle.numbers.proofs.Quotient.{by_zero, by_other, has_quotient, quot32, is_minus_one, by_minus_one}
use Rattle.numbers.proofs.Signs.{clipped_kept}
use Rattle.numbers.proofs.clip.divide.Goals as goal

pub nonzero_div-b : goal.nonzero_div-b
nonzero_div-b c =
    let s = c in
    (omega (arith, c.if-c-eq0.false), rw (to_z-of_z s.ranges.b, to_z-of_z s.ranges.c) (quot32 s.args.b s.args.c s.ranges.b s.ranges.c c.if-c-eqminus1.false))

pub returns-then-c-eq0 : goal.returns-then-c-eq0
returns-then-c-eq0 c = let s = c in c.untrue.ensures ∙ by_zero s.args.b s.ranges.c c.if-c-eq0.true

pub returns-then-c-eqminus1 : goal.returns-then-c-eqminus1
returns-then-c-eqminus1 c =
    let s = c in
    c.negate.ensures
    ∙ rw (to_z-of_z s.ranges.b, is_minus_one s.args.c s.ranges.c c.if-c-eqminus1.true) (ap clipped (sym (by_minus_one s.args.b)))

pub returns-else-c-eqminus1 : goal.returns-else-c-eqminus1
returns-else-c-eqminus1 c =
    let s = c in
    let d = (nonzero_div-b c.before).1 in
    let q = (λ i. quot_z (to_z-of_z s.ranges.b i) (to_z-of_z s.ranges.c i)) ∙ by_other s.args.b s.args.c c.if-c-eq0.false in
    c.exact.ensures ∙ ap itself (to_z-of_z d) ∙ clipped_kept _ d ∙ ap clipped q
    ∙ ap (telling (clip (quotient s.args.b s.args.c))) (has_quotient s.args.b s.args.c c.if-c-eq0.false)
