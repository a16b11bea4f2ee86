-- `zero` meets its contract: the part that is filled, and the rest.
use Rattle.std.proofs.Common.{rules, sym, ◌≡◌, replicate, take, length, length-take-le}
use Rattle.store_load.proofs.Turns.{zeroes_fill}
use Rattle.store_load.proofs.load.zero.Goals as goal

pub returns : goal.returns
returns c =
    let e : c.fill.new.self ≡ replicate (length (take c.args.n c.args.store.now)) 0 = c.fill.ensures.after (λ y k. search rules) in
    let m : length (take c.args.n c.args.store.now) ≡ c.args.n = length-take-le c.args.n c.args.store.now c.requires in
    rw (e, m) (sym (zeroes_fill _ _ c.requires))
