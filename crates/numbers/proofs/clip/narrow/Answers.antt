-- `narrow` meets its contract: what fits is kept by the clip, and what does not is beyond the end on its side of 0.
use mathlib.Core.Path.{ap, ◌∙◌}
use mir.Facts.{to_z-of_z}
use Rattle.rules_numbers.specs.Truth.{itself}
use Rattle.numbers.proofs.Signs.{clipped_low, clipped_high, clipped_kept}
use Rattle.numbers.proofs.clip.narrow.Goals as goal

-- What fits is itself.
-- What does not is the low end where it is below 0, else the high end.

pub returns-in-Ok : goal.returns-in-Ok
returns-in-Ok c =
    let s = to_z-of_z c.ranges.x in
    let t = c.in-Ok.ensures in
    let f = rw s at t.0 in
    c.exact.ensures ∙ ap itself (rw (t.1, s) (to_z-of_z f)) ∙ clipped_kept c.args.x f

pub returns-in-Err : goal.returns-in-Err
returns-in-Err c =
    let s = to_z-of_z c.ranges.x in
    c.untrue.ensures ∙ clipped_low c.args.x (rw s at c.in-Err.ensures) (rw s at c.if-x-lt0.true)

pub returns-in-Err-2 : goal.returns-in-Err-2
returns-in-Err-2 c =
    let s = to_z-of_z c.ranges.x in
    c.untrue-in-Err-2.ensures ∙ clipped_high c.args.x (rw s at c.in-Err.ensures) (rw s at c.if-x-lt0.false)
