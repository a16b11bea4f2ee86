-- `rules_end` meets its contract: the passes, each over what the one before left, are one pass with all rules (`rules_chain`).
use Rattle.std.proofs.Common.{rules}
use Rattle.table_network.proofs.laws.Rules.{rules_chain}
use Rattle.table_network.proofs.rules_end.Goals as goal

pub returns : goal.returns
returns c =
    let s = c.args.front.now in
    let e = rules_chain s.kinds.table.now s.n in
    search rules
