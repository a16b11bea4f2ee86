use mathlib.Core.Path.{◌∙◌}
use Rattle.table_index.proofs.laws.Making.{ask_associations, ask_connections, ask_links, events_done}
use Rattle.table_index.proofs.index.Indexable.events.Goals as goal

pub chain-requires : goal.chain-requires
chain-requires c = ask_associations _ _ c.args.self.now.lawful c.args.self.now.owners c.requires c.associations.ensures

pub chain-requires-2 : goal.chain-requires-2
chain-requires-2 c = ask_connections _ _ c.args.self.now.lawful c.args.self.now.owners (c.chain.ensures.1.long ∙ c.requires) c.connections.ensures

pub chain-requires-3 : goal.chain-requires-3
chain-requires-3 c = ask_links _ _ c.args.self.now.lawful c.args.self.now.owners (c.chain-2.ensures.1.long ∙ c.chain.ensures.1.long ∙ c.requires) c.links.ensures

pub returns : goal.returns
returns c = events_done _ _ c.args.self.now.lawful c.requires c.associations.ensures c.connections.ensures c.links.ensures c.chain.ensures.0 c.chain.ensures.1 c.chain-2.ensures.0 c.chain-2.ensures.1 c.chain-3.ensures.0 c.chain-3.ensures.1
