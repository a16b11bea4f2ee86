-- `guard::guard_holds` meets its contract: the guard that was read decides (`decides`), and each arm makes the comparison that its case names.
use mathlib.Core.Path.{◌∙◌}
use borrow.Author.Rules.{rules}
use Rattle.rules_moves.specs.Guard.{holds}
use Rattle.moves_chart.proofs.Guards.{narrow, decides, equals, differs, below, at_most}
use Rattle.moves_chart.proofs.guard.guard_holds.Goals as goal

pub signed_value-requires : goal.signed_value-requires
signed_value-requires c = (search rules, (narrow c.in-Equals.is c.guard_at-guard.ensures.1).0)

pub signed_value-requires-in-Equals : goal.signed_value-requires-in-Equals
signed_value-requires-in-Equals c = (search rules, (narrow c.in-Equals.is c.guard_at-guard.ensures.1).1)

pub signed_value-requires-in-Differs : goal.signed_value-requires-in-Differs
signed_value-requires-in-Differs c = (search rules, (narrow c.in-Differs.is c.guard_at-guard.ensures.1).0)

pub signed_value-requires-in-Differs-2 : goal.signed_value-requires-in-Differs-2
signed_value-requires-in-Differs-2 c = (search rules, (narrow c.in-Differs.is c.guard_at-guard.ensures.1).1)

pub signed_value-requires-in-Below : goal.signed_value-requires-in-Below
signed_value-requires-in-Below c = (search rules, (narrow c.in-Below.is c.guard_at-guard.ensures.1).0)

pub signed_value-requires-in-Below-2 : goal.signed_value-requires-in-Below-2
signed_value-requires-in-Below-2 c = (search rules, (narrow c.in-Below.is c.guard_at-guard.ensures.1).1)

pub signed_value-requires-in-AtMost : goal.signed_value-requires-in-AtMost
signed_value-requires-in-AtMost c = (search rules, (narrow c.in-AtMost.is c.guard_at-guard.ensures.1).0)

pub signed_value-requires-in-AtMost-2 : goal.signed_value-requires-in-AtMost-2
signed_value-requires-in-AtMost-2 c = (search rules, (narrow c.in-AtMost.is c.guard_at-guard.ensures.1).1)

pub returns-in-Always : goal.returns-in-Always
unfolding holds
returns-in-Always c = decides _ _ _ c.guard_at-guard.ensures.0 c.in-Always.is

pub returns-in-Equals : goal.returns-in-Equals
returns-in-Equals c = λ j e. equals _ _ c.in-Equals.d c.in-Equals.e (record { sfits = c.signed_value.type_inv }) (record { sfits = c.signed_value-in-Equals.type_inv }) c.signed_value.ensures c.signed_value-in-Equals.ensures ∙ decides _ _ _ c.guard_at-guard.ensures.0 c.in-Equals.is j e

pub returns-in-Differs : goal.returns-in-Differs
returns-in-Differs c = λ j e. differs _ _ c.in-Differs.d c.in-Differs.e (record { sfits = c.signed_value-in-Differs.type_inv }) (record { sfits = c.signed_value-in-Differs-2.type_inv }) c.signed_value-in-Differs.ensures c.signed_value-in-Differs-2.ensures ∙ decides _ _ _ c.guard_at-guard.ensures.0 c.in-Differs.is j e

pub returns-in-Below : goal.returns-in-Below
returns-in-Below c = λ j e. below _ _ c.in-Below.d c.in-Below.e (record { sfits = c.signed_value-in-Below.type_inv }) (record { sfits = c.signed_value-in-Below-2.type_inv }) c.signed_value-in-Below.ensures c.signed_value-in-Below-2.ensures ∙ decides _ _ _ c.guard_at-guard.ensures.0 c.in-Below.is j e

pub returns-in-AtMost : goal.returns-in-AtMost
returns-in-AtMost c = λ j e. at_most _ _ c.in-AtMost.d c.in-AtMost.e (record { sfits = c.signed_value-in-AtMost.type_inv }) (record { sfits = c.signed_value-in-AtMost-2.type_inv }) c.signed_value-in-AtMost.ensures c.signed_value-in-AtMost-2.ensures ∙ decides _ _ _ c.guard_at-guard.ensures.0 c.in-AtMost.is j e
