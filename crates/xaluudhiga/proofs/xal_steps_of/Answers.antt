-- The span is the defined one, and lies in the table, so its bytes are numbers that the machine can hold.
use mathlib.Core.Path.{ap}
use Prim.Native.Nat.{◌*◌}
use Rattle.rules_tables.specs.declared.Span.{Span}
use Rattle.xaluudhiga.proofs.xal_steps_of.Goals as goal

pub returns : goal.returns
returns c =
    let same = c.step_span-steps.ensures.same in
    record { starts = ap (λ (s : Span). 12 * s.first) same; lasts = ap (λ (s : Span). 12 * s.count) same }
