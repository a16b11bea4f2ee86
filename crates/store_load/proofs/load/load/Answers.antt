-- `load` meets its contract: three walks, one after the other.
use Rattle.rules_store.specs.Load.{loaded}
use Rattle.store_load.proofs.load.load.Goals as goal

pub returns : goal.returns
unfolding loaded
returns c = rw (c.start_values.ensures, c.initial_states.ensures, c.zero.ensures, c.need.ensures)
