-- `minimum` meets its contract: the library's `min` is `least` (`least_is`).
use mathlib.Core.Path.{◌∙◌}
use Rattle.numbers.proofs.Signs.{handed, least_is}
use Rattle.numbers.proofs.clip.minimum.Goals as goal

pub returns : goal.returns
returns c = handed c.min.type_inv (c.min.ensures.value ∙ least_is c.ranges.b c.ranges.c)
