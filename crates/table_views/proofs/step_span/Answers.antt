-- The actions of an accepted table stand between its transitions and its steps, and the steps of an action all exist (Views).
use borrow.Author.Rules.{rules}
use Rattle.table_views.proofs.laws.Views.{step_refused, few_actions, step_none, action_in, step_empty, steps_in, step_some}
use mathlib.Core.Path.{sym, ◌∙◌}
use native.Mathlib.Omega.{arith}
use Rattle.table_views.proofs.step_span.Goals as goal

pub returns-in_default : goal.returns-in_default
returns-in_default c = step_refused _ _ _ (sym c.check-judged.ensures.0 ∙ c.in_default.is)

pub overflow_sub-shape : goal.overflow_sub-shape
overflow_sub-shape c = few_actions _ _ (sym c.check-judged.ensures.0 ∙ c.in-Ok.is)

pub returns-then-shape-id : goal.returns-then-shape-id
returns-then-shape-id c = step_none _ _ (sym c.check-judged.ensures.0 ∙ c.in-Ok.is) _ c.if-shape-id.true

pub field-n-requires : goal.field-n-requires
field-n-requires c = (action_in _ _ (sym c.check-judged.ensures.0 ∙ c.in-Ok.is) _ c.if-shape-id.false, search rules)

pub returns-then-n-eq0 : goal.returns-then-n-eq0
returns-then-n-eq0 c = step_empty _ _ (sym c.check-judged.ensures.0 ∙ c.in-Ok.is) _ c.if-shape-id.false _ c.field-n.ensures.0 c.if-n-eq0.true

pub field-requires : goal.field-requires
field-requires c = (action_in _ _ (sym c.check-judged.ensures.0 ∙ c.in-Ok.is) _ c.if-shape-id.false, search rules)

pub overflow_add-result : goal.overflow_add-result
overflow_add-result c = let w = steps_in _ _ (sym c.check-judged.ensures.0 ∙ c.in-Ok.is) _ c.if-shape-id.false _ _ c.field.ensures.0 c.field-n.ensures.0 c.if-n-eq0.false in omega arith

pub returns : goal.returns
returns c = step_some _ _ (sym c.check-judged.ensures.0 ∙ c.in-Ok.is) _ c.if-shape-id.false _ _ c.field.ensures.0 c.field-n.ensures.0 c.if-n-eq0.false
