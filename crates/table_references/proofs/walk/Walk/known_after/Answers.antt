-- What is known stays, starts anew with the action's own steps (`known_new`), or grows by them (`known_more`).
use Rattle.rules_tables.specs.Kind.{chart_state}
use Rattle.rules_tables.specs.Place.{owner_of}
use Rattle.table_references.proofs.laws.Known.{known_new, known_more, acts_state, acts_results}
use mathlib.Core.Path.{refl, ap, ◌∙◌}
use native.Mathlib.Omega.{arith}
use Rattle.table_references.proofs.walk.Walk.known_after.Goals as goal

pub owner-element-requires : goal.owner-element-requires
owner-element-requires c = rw c.field.ensures.0 (acts_state _ _ c.requires.1)

pub returns-then-known_from-eq0 : goal.returns-then-known_from-eq0
returns-then-known_from-eq0 c = known_new _ _ _ _ _ refl (acts_results _ c.args.f _ _ _ c.requires.1 c.field-first.ensures.0 c.field-n.ensures.0 (c.owner-element.ensures.0 ∙ ap (owner_of c.args.self.now.frames.kinds.table.now chart_state) c.field.ensures.0) c.if-n-eq0.false)

pub returns : goal.returns
returns c = known_more _ _ _ _ c.known_from.result _ _ c.args.self.now.known c.known_from.ensures (omega arith) refl (acts_results _ c.args.f _ _ _ c.requires.1 c.field-first.ensures.0 c.field-n.ensures.0 (c.owner-element.ensures.0 ∙ ap (owner_of c.args.self.now.frames.kinds.table.now chart_state) c.field.ensures.0) c.if-n-eq0.false)
