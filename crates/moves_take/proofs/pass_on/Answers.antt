use Rattle.moves_take.proofs.Turns.{passed_on, value_now}
use Rattle.moves_take.proofs.laws.Known.{at_frame}
use native.Mathlib.Omega.{arith}
use Rattle.moves_take.proofs.pass_on.Goals as goal

pub pass-requires : goal.pass-requires
pass-requires c = (omega (arith, at_frame _ 1 c.association_frame.ensures.is c.field-v.ensures.0, c.args.ix.now.net.good.association_variable c.args.j c.requires.0), value_now _ _ _ _ c.sample-x.ensures.0 c.sample-x.ensures.1)

pub returns : goal.returns
returns c = passed_on _ _ _ _ _ _ _ c.requires.1 (at_frame _ 1 c.association_frame.ensures.is c.field-v.ensures.0) c.sample-x.ensures.0 c.sample-x.ensures.1 c.pass.ensures
