-- `variable_at` meets its contract by definition.
use Rattle.rules_store.specs.Layout.{variable_at}
use native.Mathlib.Omega.{arith}
use Rattle.store_words.proofs.word.variable_at.Goals as goal

pub returns : goal.returns
unfolding variable_at
returns c = record { is = rw c.inputs.ensures; small = omega (arith, c.inputs.ensures) }
