-- `event_size` meets its contract.
use mathlib.Core.Path.{sym}
use Rattle.moves_tell.proofs.laws.Sized.{sized_none, sized_emitted, sized_same}
use Rattle.moves_tell.proofs.Telling.{no_event, some_event}
use Rattle.moves_tell.proofs.sizes.event_size.Goals as goal

pub returns-then-field-eq-NONE : goal.returns-then-field-eq-NONE
returns-then-field-eq-NONE c = sized_same (no_event _ _ _ c.action_frame.ensures.is c.field.ensures.0 c.if-field-eq-NONE.true) sized_none

pub returns-else-field-eq-NONE : goal.returns-else-field-eq-NONE
returns-else-field-eq-NONE c = sized_same (sym (some_event _ _ _ c.action_frame.ensures.is c.field.ensures.0 c.if-field-eq-NONE.false)) (sized_emitted _ _ _)
