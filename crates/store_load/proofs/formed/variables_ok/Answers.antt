use Rattle.std.proofs.Common.{rules}
use Rattle.rules_walks.proofs.laws.Ranges.{all_in}
use Rattle.store_load.proofs.formed.variables_ok.Goals as goal

pub returns : goal.returns
returns c = all_in c.all.ensures.ran (λ x b q k. search rules) c.variables.ensures
