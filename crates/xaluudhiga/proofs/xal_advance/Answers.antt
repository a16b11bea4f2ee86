-- The answer of `advance`, whose number and frame fit one number (Bounds).
use Rattle.rules_calls.proofs.laws.Compact.{advance_compact}
use Rattle.xaluudhiga.proofs.xal_advance.Goals as goal

pub pack-requires : goal.pack-requires
pack-requires c = advance_compact _ _ _ c.advance.ensures
