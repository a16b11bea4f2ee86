-- `next_waiting` meets its contract. The invariant: of the event inputs passed none waits.
use Rattle.moves_least.specs.Waits.{waits_at}
use Rattle.moves_least.proofs.Turns.{skipped_more}
use mathlib.Core.Path.{sym, ◌∙◌}
use native.Mathlib.Omega.{arith}
use Rattle.moves_least.proofs.next_waiting.Goals as goal

pub loop-k-init : goal.loop-k-init
loop-k-init c = ((λ j u v. absurd (omega arith)), omega arith)

pub returns-then-waits : goal.returns-then-waits
unfolding waits_at
returns-then-waits c = let inv = c.loop-k.invariant in record { from = inv.1; within = omega arith; skipped = inv.0; met = λ _. sym c.waits.ensures ∙ c.if-waits.true }

pub loop-k-preserved : goal.loop-k-preserved
unfolding waits_at
loop-k-preserved c = let inv = c.loop-k.invariant in (skipped_more _ inv.0 (sym c.waits.ensures ∙ c.if-waits.false), omega arith)

pub returns : goal.returns
returns c = let inv = c.loop-k.invariant in record { from = omega arith; within = omega arith; skipped = λ j u v. inv.0 j u (omega arith); met = λ v. absurd (omega arith) }
