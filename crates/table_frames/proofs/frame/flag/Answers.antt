-- `flag` reads the byte that `flag_at` names.
use Rattle.rules_tables.specs.Frame.{flag_at}
use Rattle.table_frames.proofs.frame.flag.Goals as goal

pub returns : goal.returns
unfolding flag_at
returns c = (c.byte_at.ensures.is, c.byte_at.ensures.small)
