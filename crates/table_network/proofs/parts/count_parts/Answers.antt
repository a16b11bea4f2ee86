-- `parts::count_parts` meets its contract: in a table in order no frame before the event inputs is a part (`parts_from`), and none behind the variables (`parts_rest`).
use Rattle.table_network.proofs.laws.Parts.{starts_rise, parts_from, parts_rest}
use Rattle.table_network.proofs.parts.count_parts.Goals as goal

pub tally_parts-requires : goal.tally_parts-requires
tally_parts-requires c = let p = c.requires in
    let s = c.args.kinds.now in
    let T = s.table.now in
    let w = starts_rise T s.starts.now s.starting in
    (w.0, w.1, p.0, parts_from T s.starts.now _ s.starting (rw c.if-formed-n.true at p.1) p.2)

pub returns-then-formed-n : goal.returns-then-formed-n
returns-then-formed-n c = let p = c.requires in
    parts_rest c.args.kinds.now.table.now c.args.kinds.now.starts.now _ c.args.kinds.now.starting (rw c.if-formed-n.true at p.1) c.tally_parts.ensures
