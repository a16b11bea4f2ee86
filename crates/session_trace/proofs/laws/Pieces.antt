-- A run that goes on with another piece has made moves, so the pieces come to an end.
use Rattle.std.specs.Prelude.{◌≡◌, true, ◌<◌, eqb, ltb}
use Rattle.std.proofs.Common.{ltb-true}
use Rattle.rules_walks.proofs.laws.Pick.{both_right}
use Rattle.rules_calls.specs.Answer.{moves_of, stop_of, Answer}
use Rattle.session_trace.specs.Pieces.{goes_on}

pub goes_moves : (a : Answer) → goes_on a ≡ true → 0 < moves_of a
unfolding goes_on
goes_moves a e = ltb-true 0 (moves_of a) (both_right (eqb (stop_of a) 4) (ltb 0 (moves_of a)) e)
