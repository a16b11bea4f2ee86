-- `step_size` meets its contract: a frame where the variable's value is not what the step's operation gives.
use mathlib.Core.Path.{refl, ◌∙◌}
use Rattle.moves_tell.proofs.laws.Sized.{sized_same, sized_differing_not, sized_differing}
use Rattle.moves_tell.proofs.Telling.{result_is, step_is}
use Rattle.moves_tell.proofs.sizes.step_size.Goals as goal

pub returns-then-value_of-x : goal.returns-then-value_of-x
returns-then-value_of-x c =
    sized_same (result_is _ _ _ _ _ refl refl refl refl c.value_of.ensures ∙ step_is _ _ _ _ _ c.step_frame-f.ensures.is c.field-v.ensures.0 c.result_of-x.ensures)
    (sized_differing_not _ _ _ c.if-value_of-x.true)

pub returns-else-value_of-x : goal.returns-else-value_of-x
returns-else-value_of-x c =
    sized_same (result_is _ _ _ _ _ refl refl refl refl c.value_of.ensures ∙ step_is _ _ _ _ _ c.step_frame-f.ensures.is c.field-v.ensures.0 c.result_of-x.ensures)
    (sized_differing _ _ _ c.if-value_of-x.false)
