-- `wake` meets its contract: the owner, then the running block.
use Rattle.rules_moves.specs.Take.{wake}
use Rattle.moves_take.proofs.wake.Goals as goal

pub returns : goal.returns
unfolding wake
returns c = rw (c.put_running.ensures, c.awake.ensures, c.put_owner.ensures)
