-- The answer of `arrival`, whose number and frame fit one number (Bounds).
use Rattle.rules_calls.proofs.laws.Compact.{arrival_compact}
use Rattle.xaluudhiga.proofs.xal_arrival.Goals as goal

pub pack-requires : goal.pack-requires
pack-requires c = arrival_compact _ _ _ _ _ c.arrival.ensures
