-- The answer of `load`, whose number and frame fit one number (Bounds).
use Rattle.rules_calls.proofs.laws.Compact.{load_compact}
use Rattle.xaluudhiga.proofs.xal_load.Goals as goal

pub pack-requires : goal.pack-requires
pack-requires c = load_compact _ _ c.load.ensures
