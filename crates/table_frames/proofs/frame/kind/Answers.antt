-- `kind` reads the byte that `kind_at` names.
use Rattle.rules_tables.specs.Frame.{kind_at}
use Rattle.table_frames.proofs.frame.kind.Goals as goal

pub returns : goal.returns
unfolding kind_at
returns c = (c.byte_at.ensures.is, c.byte_at.ensures.small)
