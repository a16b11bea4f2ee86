-- The answer of `run_traced`, whose number and frame fit one number (Compact), and its counts.
use Rattle.xaluudhiga.proofs.Tracing.{traced_compact}
use Rattle.xaluudhiga.proofs.xal_run_traced.Goals as goal

pub pack-requires : goal.pack-requires
pack-requires c = traced_compact _ _ _ _ _ _ c.run_traced-told.ensures
