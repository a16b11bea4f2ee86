use mathlib.Core.Path.{◌∙◌}
use Rattle.table_index.proofs.laws.Partnering.{ask_variable_pairs, variables_done}
use Rattle.table_index.proofs.laws.Making.{ask_variables}
use Rattle.table_index.proofs.index.Indexable.variables.Goals as goal

pub chain-requires : goal.chain-requires
chain-requires c = ask_variables _ _ c.args.self.now.lawful c.args.self.now.owners c.requires.0.long c.variables-n.ensures

pub pair-requires : goal.pair-requires
pair-requires c = ask_variable_pairs _ _ c.args.self.now.lawful c.args.self.now.owners (c.chain.ensures.1.long ∙ c.requires.0.long) c.variables-n.ensures c.chain.ensures.0 c.chain.ensures.1

pub returns : goal.returns
returns c = variables_done _ _ c.args.self.now.lawful c.args.self.now.owners c.variables-n.ensures c.requires.0 c.requires.1 c.requires.2 c.chain.ensures.0 c.chain.ensures.1 c.pair.ensures.0 c.pair.ensures.1
