use mathlib.Core.Path.{◌∙◌}
use Rattle.table_index.proofs.laws.Making.{ask_transitions, ask_actions, states_done}
use Rattle.table_index.proofs.index.Indexable.states.Goals as goal

pub chain-requires : goal.chain-requires
chain-requires c = ask_transitions _ _ c.args.self.now.lawful c.args.self.now.owners c.requires.long c.transitions.ensures

pub chain-requires-2 : goal.chain-requires-2
chain-requires-2 c = ask_actions _ _ c.args.self.now.lawful c.args.self.now.owners (c.chain.ensures.1.long ∙ c.requires.long) c.actions.ensures

pub returns : goal.returns
returns c = states_done _ _ c.args.self.now.lawful c.transitions.ensures c.actions.ensures c.requires c.chain.ensures.0 c.chain.ensures.1 c.chain-2.ensures.0 c.chain-2.ensures.1
