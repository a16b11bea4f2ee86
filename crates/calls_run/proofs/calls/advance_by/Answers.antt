-- `advance_by` meets its contract: now, then what is due.
use Rattle.rules_calls.specs.Calls.{advanced}
use Rattle.calls_run.proofs.Turns.{timed_kept}
use Rattle.calls_run.proofs.calls.advance_by.Goals as goal

pub expire_all-requires : goal.expire_all-requires
expire_all-requires c = (c.requires.0, timed_kept c.args.ix.now.net.table.now _ _ _ c.requires.1 c.put_time.ensures)

pub returns : goal.returns
unfolding advanced
returns c = rw (c.expire_all.ensures, c.put_time.ensures)
