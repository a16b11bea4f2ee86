-- The need of an accepted table's shape, else 0.
use Rattle.store_words.proofs.laws.Small.{small}
use Rattle.rules_calls.proofs.laws.Checked.{ready, need_faulty, need_sound}
use Rattle.xaluudhiga.proofs.xal_need.Goals as goal

pub returns-in_default : goal.returns-in_default
returns-in_default c = need_faulty _ c.check-judged.ensures.0 c.in_default.is

pub need-requires : goal.need-requires
need-requires c = small _ _ (ready _ c.check-judged.ensures.0 c.in-Ok.is)

pub returns : goal.returns
returns c = need_sound _ c.check-judged.ensures.0 c.in-Ok.is c.need.ensures
