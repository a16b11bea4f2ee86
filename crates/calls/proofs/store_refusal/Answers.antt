-- `store_refusal` meets its contract: 5 before 6.
use Rattle.std.proofs.lemmas.Result.{err_from_is_err_and}
use Rattle.calls.proofs.Turns.{short_stops, long_then}
use Rattle.calls.proofs.store_refusal.Goals as goal

pub returns-in_err-length_refusal : goal.returns-in_err-length_refusal
returns-in_err-length_refusal c = let p = err_from_is_err_and c.from_residual.result c.from_residual.ensures.1 in rw (p.1, p.2) (short_stops _ _ _ c.in_err-length_refusal.ensures)

pub returns-then-well_formed : goal.returns-then-well_formed
returns-then-well_formed c = long_then _ _ _ c.in_ok-length_refusal.ensures c.if-well_formed.ensures

pub returns-else-well_formed : goal.returns-else-well_formed
returns-else-well_formed c = rw (long_then _ _ _ c.in_ok-length_refusal.ensures c.if-well_formed.ensures) c.refuse.ensures
