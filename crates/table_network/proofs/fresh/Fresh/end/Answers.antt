-- `Fresh::end` meets its contract. The loop's invariant: the windows up to key b are looked at.
use Rattle.table_frames.specs.Kind.{kind_number}
use Rattle.table_network.proofs.laws.Alike.{keys_few, fresh_past}
use Rattle.table_network.proofs.laws.Windows.{windows_none, windows_more, windows_all}
use lib.Seq.{length-take-le}
use mathlib.Core.Path.{refl}
use native.Mathlib.Omega.{arith}
use borrow.Author.Rules.{rules}
use Rattle.table_network.proofs.fresh.Fresh.end.Goals as goal

pub overflow_mul-keys : goal.overflow_mul-keys
overflow_mul-keys c = let w = c.args.self.now.paired in let h = keys_few _ _ w.few_xs w.few_ys in omega arith

pub loop-b-init : goal.loop-b-init
loop-b-init c = let w = c.args.self.now.paired in (keys_few _ _ w.few_xs w.few_ys, omega arith, refl, omega arith, windows_none _ _ _)

pub loop-b-preserved : goal.loop-b-preserved
loop-b-preserved c =
    let l = c.loop-b in
    let q = rw (length-take-le c.min-words.result l.set (let h = l.invariant.2 in omega arith)) at c.window_end-e.ensures.0 in
    (l.invariant.0, omega arith, search rules, search rules, windows_more _ _ _ l.b _ l.e _ l.invariant.4 q)

pub returns : goal.returns
returns c =
    let s = c.args.self.now in
    let l = c.loop-b in
    (windows_all _ _ s.front.n l.b l.e (fresh_past (kind_number s.kind) s.front.kinds.table.now s.ys s.front.n _ l.b s.paired.spanning c.loop-b-test.false) l.invariant.4, l.invariant.3)
