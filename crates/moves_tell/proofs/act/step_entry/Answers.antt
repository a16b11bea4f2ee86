-- `step_entry` meets its contract.
use Rattle.moves_tell.proofs.act.step_entry.Goals as goal

pub returns : goal.returns
returns c = rw (c.running-r.ensures, c.element_of.ensures.is)
