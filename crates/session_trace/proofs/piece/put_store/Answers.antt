-- `put_store` meets its contract by what the check says of the table.
use Rattle.session_trace.proofs.Piecing.{store_none, store_good, store_some}
use Rattle.session_trace.proofs.piece.put_store.Goals as goal

pub returns-in_default : goal.returns-in_default
returns-in_default c = store_none _ c.check.ensures.0 _ _ _ c.in_default.is

pub invariant_of-net : goal.invariant_of-net
invariant_of-net c = record { good = store_good _ c.check.ensures.0 c.args.shown.now 0 c.in-Ok.is }

pub returns : goal.returns
returns c = store_some _ c.check.ensures.0 _ _ c.in-Ok.is c.put_shown.ensures
