use mathlib.Core.Path.{◌∙◌}
use Rattle.table_index.proofs.indexed.IndexedNetwork.variable_partner.Goals as goal

pub returns : goal.returns
returns c = c.from.ensures ∙ c.args.self.now.indexed.variable_partners _ c.requires
