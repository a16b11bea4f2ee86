-- `fire_event` meets its contract: none or not.
use Rattle.moves_next.proofs.Turns.{event_fired, event_none, event_own}
use mathlib.Core.List.{[]}
use mathlib.Core.Path.{refl}
use Rattle.moves_take.proofs.laws.Known.{at_frame}
use Rattle.moves_next.proofs.act.fire_event.Goals as goal

pub fire_by-requires : goal.fire_by-requires
fire_by-requires c = event_own _ _ _ 0 0 [] [] (at_frame _ 3 c.action_frame.ensures.is c.field-o.ensures.0) c.args.ix.now.indexed.owners c.requires c.if-o-ne-NONE.true

pub returns-then-o-ne-NONE : goal.returns-then-o-ne-NONE
returns-then-o-ne-NONE c = event_fired _ _ _ _ _ _ _ (at_frame _ 3 c.action_frame.ensures.is c.field-o.ensures.0) c.if-o-ne-NONE.true c.fire_by.ensures

pub returns-else-o-ne-NONE : goal.returns-else-o-ne-NONE
returns-else-o-ne-NONE c = event_none _ _ _ _ _ _ _ (at_frame _ 3 c.action_frame.ensures.is c.field-o.ensures.0) c.if-o-ne-NONE.false refl
