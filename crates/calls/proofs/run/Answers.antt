-- `run` meets its contract: the refusals in their order, or what the run left without a trace.
use Rattle.std.proofs.lemmas.Result.{err_from_is_err_and}
use mathlib.Core.Path.{refl}
use Rattle.calls.proofs.Turns.{store_now, run_stops, run_done}
use Rattle.calls.proofs.Tracing.{ready_traceable, ready_owners, ready_formed}
use Rattle.calls.proofs.run.Goals as goal

pub returns-in_err-net : goal.returns-in_err-net
returns-in_err-net c = let p = err_from_is_err_and c.from_residual.result c.from_residual.ensures.1 in rw (p.1, p.2) (run_stops _ _ _ _ c.in_err-net.ensures)

pub run_moves-r-requires : goal.run_moves-r-requires
run_moves-r-requires c =
    let k = c.in_ok-net.ensures.0 in
    let z = c.in_ok-net.ensures.1 in
    (ready_traceable _ k, ready_formed _ k _ z, c.time-at.ensures, rw c.time-at.ensures (store_now _ _ _ z), ready_owners _ k)

pub returns : goal.returns
returns c = run_done _ _ _ _ c.in_ok-net.ensures.0 c.in_ok-net.ensures.1 _ c.time-at.ensures (c.run_moves-r.ensures.untraced refl)
