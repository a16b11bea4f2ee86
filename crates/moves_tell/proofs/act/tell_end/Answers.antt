-- `tell_end` meets its contract.
use mathlib.Core.Path.{sym}
use Rattle.moves_tell.proofs.laws.Told.{room_same}
use Rattle.moves_tell.proofs.laws.Taped.{taped_none, taped_same}
use Rattle.moves_tell.proofs.Telling.{no_event, some_event, event_in}
use Rattle.moves_tell.proofs.act.tell_end.Goals as goal

pub returns-else-o-ne-NONE : goal.returns-else-o-ne-NONE
returns-else-o-ne-NONE c = taped_same (no_event _ _ _ c.action_frame.ensures.is c.field-o.ensures.0 c.if-o-ne-NONE.false) (taped_none _)

pub tell_emitted-requires : goal.tell_emitted-requires
tell_emitted-requires c = (event_in _ _ _ c.action_frame.ensures.is c.field-o.ensures.0 c.args.net.now.good c.requires.0 c.if-o-ne-NONE.true, room_same (some_event _ _ _ c.action_frame.ensures.is c.field-o.ensures.0 c.if-o-ne-NONE.true) c.requires.1)

pub returns-then-o-ne-NONE : goal.returns-then-o-ne-NONE
returns-then-o-ne-NONE c = taped_same (sym (some_event _ _ _ c.action_frame.ensures.is c.field-o.ensures.0 c.if-o-ne-NONE.true)) c.tell_emitted.ensures
