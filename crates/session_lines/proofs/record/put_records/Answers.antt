-- `put_records` meets its contract by what the check says of the table.
use Rattle.session_lines.proofs.Splitting.{ready}
use Rattle.session_lines.proofs.record.put_records.Goals as goal

pub invariant_of-net : goal.invariant_of-net
invariant_of-net c = record { good = ready _ c.args.out.now c.check.ensures.0 c.in-Ok.is }
