-- `maximum` meets its contract: the library's `max` is `greatest` (`greatest_is`).
use mathlib.Core.Path.{◌∙◌}
use Rattle.numbers.proofs.Signs.{handed, greatest_is}
use Rattle.numbers.proofs.clip.maximum.Goals as goal

pub returns : goal.returns
returns c = handed c.max.type_inv (c.max.ensures.value ∙ greatest_is c.ranges.b c.ranges.c)
