use Rattle.std.proofs.Common.{rules, refl}
use Rattle.rules_walks.proofs.laws.Ranges.{all_in}
use Rattle.rules_store.specs.WellFormed.{spare_ok}
use Rattle.store_load.proofs.header.spares_ok.Goals as goal

pub returns : goal.returns
unfolding spare_ok
returns c = all_in c.all.ensures.ran (λ x b q k. search rules) refl
