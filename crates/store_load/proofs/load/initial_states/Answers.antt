-- `initial_states` meets its contract. The invariant: the elements passed have their initial states.
use Rattle.rules_walks.proofs.laws.Walk.{up_to_none, up_to_more, up_to_end}
use Rattle.store_load.proofs.Turns.{initial_basic, initial_other}
use lib.ListN.{length}
use mathlib.Core.Path.{refl, ap, ◌∙◌}
use native.Mathlib.Omega.{arith}
use Rattle.store_load.proofs.load.initial_states.Goals as goal
use Rattle.store_load.proofs.load.initial_states.Goals.{then-flag-eq-BASIC, else-flag-eq-BASIC}

pub loop-el-init : goal.loop-el-init
loop-el-init c = (up_to_none _ _, refl)

pub loop-el-preserved : goal.loop-el-preserved
loop-el-preserved c =
    let inv = c.loop-el.invariant in
    let read = c.flag.ensures.0 in
    elim c.if-flag-eq-BASIC.branch [
      | then-flag-eq-BASIC w ↦ (up_to_more _ _ _ _ _ inv.0 (initial_basic _ _ _ _ read w.if-flag-eq-BASIC.true w.field.ensures.0 (w.store-is ∙ w.put_chart_state.ensures)), omega (arith, ap length w.store-is))
      | else-flag-eq-BASIC w ↦ (up_to_more _ _ _ _ _ inv.0 (initial_other _ _ _ _ read w.if-flag-eq-BASIC.false w.store-is), omega (arith, ap length w.store-is))
    ]

pub returns : goal.returns
returns c = up_to_end _ _ _ _ _ c.loop-el.invariant.0 (omega arith)
