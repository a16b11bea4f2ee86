-- `run_traced` meets its contract: a refusal, or what the run left.
use mathlib.Core.Path.{refl}
use Rattle.calls.proofs.Turns.{store_now}
use Rattle.calls.proofs.Tracing.{traced_stops, traced_done, ready_traceable, ready_owners, ready_formed}
use Rattle.calls.proofs.traced.run_traced.Goals as goal

pub returns-in-Err : goal.returns-in-Err
returns-in-Err c = traced_stops _ _ _ _ _ c.in-Err.ensures

pub run_moves-r-requires : goal.run_moves-r-requires
run_moves-r-requires c =
    let k = c.in-Ok.ensures.0 in
    let z = c.in-Ok.ensures.1 in
    (ready_traceable _ k, ready_formed _ k _ z, c.time-at.ensures, rw c.time-at.ensures (store_now _ _ _ z), ready_owners _ k)

pub returns : goal.returns
returns c = traced_done _ _ _ _ _ c.in-Ok.ensures.0 c.in-Ok.ensures.1 _ c.time-at.ensures (c.run_moves-r.ensures.traced refl)
