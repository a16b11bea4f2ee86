-- What a run without a trace has in common with a traced one that made the same moves.
use Rattle.std.specs.Prelude.{ℕ, ◌≡◌, List, eqb}
use Rattle.rules_walks.specs.Pick.{pick}
use Rattle.rules_store.specs.Word.{Store}
use Rattle.rules_calls.specs.Answer.{number_of, frame_of, moves_of, bytes_of, stop_of, Answer}

-- a is the answer of the run, b that of the traced one: they are refused alike, or make the same moves; where the traced one stopped with 4, no trace room, the
-- other stops with 2, since it has the moves that were made for its budget
pub record AsRun (a b : Answer) (s'' s' : Store) (out'' out' : List ℕ) : Type 0 where
  pub number : number_of a ≡ number_of b
  pub frame : frame_of a ≡ frame_of b
  pub moves : moves_of a ≡ moves_of b
  pub bytes : bytes_of a ≡ bytes_of b
  pub stop : stop_of a ≡ pick (eqb (stop_of b) 4) 2 (stop_of b)
  pub store : s'' ≡ s'
  pub output : out'' ≡ out'
