-- `field` reads the 16-bit number that `field_at` names.
use Rattle.rules_tables.specs.Frame.{field_at}
use Rattle.table_frames.proofs.frame.field.Goals as goal

pub returns : goal.returns
unfolding field_at
returns c = (c.half_at.ensures.is, c.half_at.ensures.small)
