-- The answer of `run`, whose number and frame fit one number (Bounds), and its counts.
use Rattle.rules_calls.proofs.laws.Compact.{run_compact}
use Rattle.xaluudhiga.proofs.xal_run.Goals as goal

pub pack-requires : goal.pack-requires
pack-requires c = run_compact _ _ _ _ _ c.run-answer.ensures
