-- `owned` meets its contract: existence first, then the owner.
use Rattle.rules_tables.specs.Place.{owned_by}
use Rattle.table_frames.proofs.frames.Frames.owned.Goals as goal

pub returns-then-exists : goal.returns-then-exists
unfolding owned_by
returns-then-exists c = rw (← c.exists.ensures, c.if-exists.true, ← c.owner.ensures.0)

pub returns-else-exists : goal.returns-else-exists
unfolding owned_by
returns-else-exists c = rw (← c.exists.ensures, c.if-exists.false)
