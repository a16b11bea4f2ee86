-- `arrival` meets its contract: the refusals in their order, or the store after the arrival.
use Rattle.std.proofs.lemmas.Result.{err_from_is_err_and}
use Rattle.calls.proofs.Tracing.{ready_lawful, ready_owners}
use Rattle.calls.proofs.Turns.{event_known, arrival_stops, arrival_refused, arrival_done}
use Rattle.calls.proofs.arrival.Goals as goal

pub returns-in_err-net : goal.returns-in_err-net
returns-in_err-net c = let p = err_from_is_err_and c.from_residual.result c.from_residual.ensures.1 in rw (p.1, p.2) (arrival_stops _ _ _ _ _ c.in_err-net.ensures)

pub returns-in_err-event_refusal : goal.returns-in_err-event_refusal
returns-in_err-event_refusal c = let p = err_from_is_err_and c.from_residual-in_err-event_refusal.result c.from_residual-in_err-event_refusal.ensures.1 in rw (p.1, p.2) (arrival_refused _ _ _ _ _ c.in_ok-net.ensures.0 c.in_ok-net.ensures.1 c.in_err-event_refusal.ensures)

pub arrive-requires : goal.arrive-requires
arrive-requires c =
    let k = c.in_ok-net.ensures.0 in
    let w = event_known _ _ _ _ _ _ c.in_ok-event_refusal.ensures in
    (w.0, w.1, ready_lawful _ k, ready_owners _ k)

pub returns : goal.returns
returns c = arrival_done _ _ _ _ _ c.in_ok-net.ensures.0 c.in_ok-net.ensures.1 c.in_ok-event_refusal.ensures c.arrive.ensures
