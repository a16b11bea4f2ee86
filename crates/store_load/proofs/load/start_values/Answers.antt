-- `start_values` meets its contract. The invariant: the variables passed have their start values.
use Rattle.rules_walks.proofs.laws.Walk.{up_to_none, up_to_more, up_to_end}
use mathlib.Core.Path.{refl}
use native.Mathlib.Omega.{arith}
use Rattle.store_load.proofs.load.start_values.Goals as goal

pub loop-v-init : goal.loop-v-init
loop-v-init c = (up_to_none _ _, refl)

pub loop-v-preserved : goal.loop-v-preserved
loop-v-preserved c = (up_to_more _ _ _ _ _ c.loop-v.invariant.0 c.start_variable.ensures, omega arith)

pub returns : goal.returns
returns c = up_to_end _ _ _ _ _ c.loop-v.invariant.0 (omega (arith, c.variables-v-end.ensures))
