-- `fresh::pairs_of` meets its contract: each kind's keys tell its frames apart (`inputs_told` and its like), and are no more than these (`inputs_spanned`).
use Rattle.std.proofs.Common.{arith, mul-one}
use Rattle.table_network.proofs.laws.Alike.{inputs_told, inputs_spanned, associations_told, associations_spanned, connections_told, connections_spanned, links_told, links_spanned}
use Rattle.table_network.proofs.laws.Shared.{links_left}
use Rattle.table_network.proofs.fresh.pairs_of.Goals as goal

pub returns-in-EventInput : goal.returns-in-EventInput
returns-in-EventInput c =
    let s = c.args.front.now in
    let x = c.count.ensures in
    rw c.in-EventInput.is
    (record { few_xs = x.1; few_ys = omega arith; telling = inputs_told s.kinds.table.now _ _ s.n s.known; spanning = rw x.0 (inputs_spanned s.kinds.table.now _ _ s.n s.known) })

pub returns-in-Association : goal.returns-in-Association
returns-in-Association c =
    let s = c.args.front.now in
    let x = c.count-in-Association.ensures in
    let y = rw (c.count-in-Association-2.ensures.0, c.count-in-Association-3.ensures.0) at c.max.ensures in
    let l = c.count-in-Association-2.ensures.1 in
    let m = c.count-in-Association-3.ensures.1 in
    rw c.in-Association.is
    (record { few_xs = x.1; few_ys = omega (arith, c.max.ensures); telling = associations_told s.kinds.table.now _ _ s.n s.known _ y; spanning = rw x.0 (associations_spanned s.kinds.table.now _ _ s.n s.known _ y) })

pub returns-in-EventConnection : goal.returns-in-EventConnection
returns-in-EventConnection c =
    let s = c.args.front.now in
    let x = c.count-in-EventConnection.ensures in
    let y = c.count-in-EventConnection-2.ensures in
    rw c.in-EventConnection.is
    (record { few_xs = x.1; few_ys = y.1; telling = connections_told s.kinds.table.now _ _ s.n s.known _ y.0; spanning = rw x.0 (connections_spanned s.kinds.table.now _ _ s.n s.known _ y.0) })

pub returns-in_default : goal.returns-in_default
returns-in_default c =
    let s = c.args.front.now in
    let x = c.count-in_default.ensures in
    let o = c.in_default in
    rw (links_left c.args.kind c.requires o.not-EventInput o.not-Association o.not-EventConnection)
    (record { few_xs = x.1; few_ys = omega arith; telling = links_told s.kinds.table.now _ _ s.n s.known 1; spanning = rw (x.0, mul-one) (links_spanned s.kinds.table.now _ _ s.n s.known 1) })
