-- `start_value` meets its contract: the high half, then the low one.
use Rattle.rules_store.specs.Load.{start_value}
use Rattle.store_load.proofs.load.start_value.Goals as goal

pub returns : goal.returns
unfolding start_value
returns c = rw (c.field.ensures.0, c.field-2.ensures.0, c.variable_frame-f.ensures.is)
