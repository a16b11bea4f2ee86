use Rattle.moves_take.proofs.Turns.{pass_none, pass_one, partner_in}
use Rattle.store_words.proofs.laws.Small.{small}
use mathlib.Core.Path.{refl}
use native.Mathlib.Omega.{arith}
use Rattle.moves_take.proofs.pass.Goals as goal

pub partner_variable-requires : goal.partner_variable-requires
partner_variable-requires c = c.requires.0

pub returns-in_default : goal.returns-in_default
returns-in_default c = pass_none _ _ _ _ _ c.partner_variable.ensures c.in_default.is refl

pub put_value-requires : goal.put_value-requires
put_value-requires c = let h = partner_in _ _ _ _ c.partner_variable.ensures c.in-Some.is in let k = c.args.ix.now.net.good.few_variables in (small _ _ c.args.ix.now.net.good, omega arith)

pub returns : goal.returns
returns c = pass_one _ _ _ _ _ _ c.partner_variable.ensures c.in-Some.is c.requires.1 c.put_value.ensures
