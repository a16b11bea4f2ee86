-- `guard::guard_at` meets its contract: each case is the guard of its number, with the fields d and e as its variables.
use mathlib.Core.Path.{refl, ◌∙◌}
use Rattle.rules_moves.specs.Guard.{guard_of}
use Rattle.moves_chart.proofs.Guards.{reads, reads_as, last}
use Rattle.moves_chart.proofs.guard.guard_at.Goals as goal

pub returns-in-0 : goal.returns-in-0
unfolding guard_of
returns-in-0 c = (reads_as _ _ c.flag-number.ensures.0 refl refl 0 c.in-0.is, tt)

pub returns-in-1 : goal.returns-in-1
unfolding guard_of
returns-in-1 c = (reads_as _ _ c.flag-number.ensures.0 c.field.ensures.0 c.field-in-1.ensures.0 1 c.in-1.is, (c.field.ensures.1, c.field-in-1.ensures.1))

pub returns-in-2 : goal.returns-in-2
unfolding guard_of
returns-in-2 c = (reads_as _ _ c.flag-number.ensures.0 c.field-in-2.ensures.0 c.field-in-2-2.ensures.0 2 c.in-2.is, (c.field-in-2.ensures.1, c.field-in-2-2.ensures.1))

pub returns-in-3 : goal.returns-in-3
unfolding guard_of
returns-in-3 c = (reads_as _ _ c.flag-number.ensures.0 c.field-in-3.ensures.0 c.field-in-3-2.ensures.0 3 c.in-3.is, (c.field-in-3.ensures.1, c.field-in-3-2.ensures.1))

pub returns-in_default : goal.returns-in_default
returns-in_default c =
    let rest = c.in_default.in_default-own.rest in
    (last _ _ _ rest.0.0.0.1 rest.0.0.1 rest.0.1 rest.1 ∙ reads _ _ c.flag-number.ensures.0 c.field-in_default.ensures.0 c.field-in_default-2.ensures.0, (c.field-in_default.ensures.1, c.field-in_default-2.ensures.1))
