-- `advance` meets its contract: the refusals in their order, or the advanced store.
use Rattle.std.proofs.lemmas.Result.{err_from_is_err_and}
use Rattle.calls.proofs.Tracing.{ready_lawful, ready_owners}
use Rattle.calls.proofs.Turns.{ready_kept, advance_stops, advance_refused, advance_done}
use Rattle.calls.proofs.advance.Goals as goal

pub returns-in_err-net : goal.returns-in_err-net
returns-in_err-net c = let p = err_from_is_err_and c.from_residual.result c.from_residual.ensures.1 in rw (p.1, p.2) (advance_stops _ _ _ c.in_err-net.ensures)

pub time_refusal-requires : goal.time_refusal-requires
time_refusal-requires c = ready_kept _ _ c.in_ok-net.ensures.0 c.in_ok-net.ensures.1

pub returns-in_err-time_refusal : goal.returns-in_err-time_refusal
returns-in_err-time_refusal c = let p = err_from_is_err_and c.from_residual-in_err-time_refusal.result c.from_residual-in_err-time_refusal.ensures.1 in rw (p.1, p.2) (advance_refused _ _ _ c.in_ok-net.ensures.0 c.in_ok-net.ensures.1 c.in_err-time_refusal.ensures)

pub advance_to-requires : goal.advance_to-requires
advance_to-requires c = let k = c.in_ok-net.ensures.0 in (ready_lawful _ k, ready_owners _ k, ready_kept _ _ k c.in_ok-net.ensures.1)

pub returns : goal.returns
returns c = advance_done _ _ _ c.in_ok-net.ensures.0 c.in_ok-net.ensures.1 c.in_ok-time_refusal.ensures c.advance_to.ensures
