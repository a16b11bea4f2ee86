-- `read_all` is safe and ends. The invariant: no text waits between two reads.
use Rattle.session_watch.proofs.read_all.Goals as goal

pub loop-init : goal.loop-init
loop-init g c = c.new.ensures.3
