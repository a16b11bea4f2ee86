-- `Front::count` meets its contract: of a kind there are no more frames than there are in all.
use Rattle.std.proofs.Common.{arith, length, ◌/◌}
use Rattle.rules_tables.proofs.laws.Places.{kind_le}
use Rattle.table_frames.specs.Kind.{kind_number}
use Rattle.table_network.proofs.front.Front.count.Goals as goal

pub returns : goal.returns
returns c =
    let s = c.args.self.now in
    let l = kind_le s.kinds.table.now (kind_number c.args.kind) (length s.kinds.table.now / 12) in
    let f = s.known.few in
    (c.count.ensures, omega (arith, c.count.ensures))
