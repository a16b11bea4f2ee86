use mathlib.Core.Path.{◌∙◌}
use Rattle.table_index.proofs.laws.Partnering.{ask_output_pairs, outputs_done}
use Rattle.table_index.proofs.laws.Making.{ask_outputs}
use Rattle.table_index.proofs.index.Indexable.outputs.Goals as goal

pub chain-requires : goal.chain-requires
chain-requires c = ask_outputs _ _ c.args.self.now.lawful c.requires.0.long c.outputs-n.ensures

pub pair-requires : goal.pair-requires
pair-requires c = ask_output_pairs _ _ c.args.self.now.lawful (c.chain.ensures.1.long ∙ c.requires.0.long) c.outputs-n.ensures c.inputs.ensures c.chain.ensures.0 c.chain.ensures.1

pub returns : goal.returns
returns c = outputs_done _ _ c.args.self.now.lawful c.outputs-n.ensures c.inputs.ensures c.requires.0 c.requires.1 c.chain.ensures.1 c.pair.ensures.0 c.pair.ensures.1
