-- The answer of `show`, which is refused as a load is, so that its number and frame fit one number (Compact), and its counts.
use Rattle.rules_calls.proofs.laws.Compact.{load_compact}
use Rattle.rules_calls.proofs.laws.Public.{load_call}
use mathlib.Core.Path.{refl}
use Rattle.xaluudhiga.proofs.xal_show.Goals as goal

pub pack-requires : goal.pack-requires
pack-requires c = load_compact _ _ (load_call _ _ c.show-told.ensures.answer refl)
