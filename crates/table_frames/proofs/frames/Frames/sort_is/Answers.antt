-- `sort_is` meets its contract: existence first, then the flag.
use Rattle.rules_tables.specs.Place.{sort_is}
use Rattle.table_frames.proofs.frames.Frames.sort_is.Goals as goal

pub returns-then-exists : goal.returns-then-exists
unfolding sort_is
returns-then-exists c = rw (← c.exists.ensures, c.if-exists.true, ← c.flag_of.ensures)

pub returns-else-exists : goal.returns-else-exists
unfolding sort_is
returns-else-exists c = rw (← c.exists.ensures, c.if-exists.false)
