-- `run_moves` meets its contract: a store that was accepted is not shorter than its first words, and the loop does the rest.
use Rattle.rules_store.specs.Layout.{need}
use native.Mathlib.Omega.{arith}
use Rattle.calls_run.proofs.running.run_moves.Goals as goal

pub returns-then-store-lt16 : goal.returns-then-store-lt16
unfolding need
returns-then-store-lt16 c = absurd (let l = c.requires.1.parts.long in let t = c.if-store-lt16.true in omega arith)
