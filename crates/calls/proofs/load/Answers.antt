-- `load` meets its contract: a refusal, or the loaded store.
use Rattle.std.proofs.lemmas.Result.{err_from_is_err_and}
use Rattle.calls.proofs.Turns.{load_stops, load_long, load_done}
use Rattle.calls.proofs.load.Goals as goal

-- A refusal is passed on as it is.
-- What the call itself refuses leaves the store.

pub returns-in_err-net : goal.returns-in_err-net
returns-in_err-net c = let p = err_from_is_err_and c.from_residual.result c.from_residual.ensures.1 in rw (p.1, p.2) (load_stops _ _ c.in_err-net.ensures)

pub load-requires : goal.load-requires
load-requires c = load_long _ _ c.in_ok-net.ensures.0 c.in_ok-net.ensures.1

pub returns : goal.returns
returns c = load_done _ _ c.in_ok-net.ensures.0 c.in_ok-net.ensures.1 c.load.ensures
