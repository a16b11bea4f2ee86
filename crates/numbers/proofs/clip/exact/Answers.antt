-- `exact` meets its contract: a value is equal to itself.
use mir.Facts.{to_z-of_z}
use Rattle.rules_numbers.proofs.laws.Equal.{equal_self}
use Rattle.numbers.proofs.clip.exact.Goals as goal

pub returns : goal.returns
returns c = rw (to_z-of_z c.ranges.x, equal_self c.args.x)
