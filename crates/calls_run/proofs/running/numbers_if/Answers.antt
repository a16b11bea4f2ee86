-- `numbers_if` meets its contract: told or not.
use mathlib.Core.Path.{refl}
use Rattle.calls_run.proofs.Tracing.{not_told, all_told_if}
use Rattle.calls_run.proofs.running.numbers_if.Goals as goal

pub tell_numbers-requires : goal.tell_numbers-requires
tell_numbers-requires c = c.requires.1 c.if-tracing.true

pub returns-then-tracing : goal.returns-then-tracing
returns-then-tracing c = record { told_if = all_told_if _ _ _ _ (c.requires.1 c.if-tracing.true).1 c.tell_numbers.ensures.told; same = c.tell_numbers.ensures.same }

pub returns-else-tracing : goal.returns-else-tracing
returns-else-tracing c = record { told_if = not_told _ _ _ _ c.requires.0 c.if-tracing.false; same = refl }
