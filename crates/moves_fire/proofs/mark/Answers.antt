-- `mark` meets its contract: the calls are the definition's parts, in its order.
use Rattle.rules_moves.specs.Fire.{mark}
use Rattle.moves_fire.proofs.mark.Goals as goal

pub returns : goal.returns
unfolding mark
returns c = rw (c.put_input.ensures, c.put_overwritten.ensures, c.counted-n.ensures, c.waiting_flag.ensures, c.overwritten_count.ensures)
