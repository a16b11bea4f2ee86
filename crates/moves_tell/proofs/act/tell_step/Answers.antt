-- `tell_step` meets its contract: the step's own frame names the variable, and what its operation gives is what is told.
use mathlib.Core.Path.{sym}
use Rattle.moves_tell.proofs.laws.Told.{room_same}
use Rattle.moves_tell.proofs.laws.Taped.{taped_same}
use Rattle.moves_tell.proofs.Telling.{step_is, step_in}
use Rattle.moves_tell.proofs.act.tell_step.Goals as goal

pub tell_result-requires : goal.tell_result-requires
tell_result-requires c =
    let f = c.step_frame-f.ensures.is in
    let v = c.field-v.ensures.0 in
    (step_in _ _ _ f v c.args.net.now.good c.requires.0, room_same (sym (step_is _ _ _ _ _ f v c.result_of-x.ensures)) c.requires.2)

pub returns : goal.returns
returns c = taped_same (step_is _ _ _ _ _ c.step_frame-f.ensures.is c.field-v.ensures.0 c.result_of-x.ensures) c.tell_result.ensures
