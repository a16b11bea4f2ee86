-- `dt_of` meets its contract: found or not.
use Rattle.store_words.proofs.laws.Small.{small}
use Rattle.moves_take.proofs.Turns.{dt_none, dt_one, nth_in}
use native.Mathlib.Omega.{arith}
use Rattle.moves_take.proofs.dt_of.Goals as goal

pub returns-in_default : goal.returns-in_default
returns-in_default c = record { is = dt_none _ _ _ _ (rw (← c.variables.ensures) c.nth.ensures) c.in_default.is; small = omega arith }

pub value_of-requires : goal.value_of-requires
value_of-requires c = let h = nth_in _ _ _ _ _ _ _ c.nth.ensures c.in-Some.is in (small _ _ c.args.net.now.good, let k = c.args.net.now.good.few_variables in omega (arith, c.variables.ensures))

pub returns : goal.returns
returns c = record { is = dt_one _ _ _ _ _ _ _ (rw (← c.variables.ensures) c.nth.ensures) c.in-Some.is c.value_of.ensures c.ticks.ensures.is; small = c.ticks.ensures.small }
