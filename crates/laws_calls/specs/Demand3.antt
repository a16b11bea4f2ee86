-- What a run puts out, for the statement of demand 3.
use Rattle.std.specs.Prelude.{◌≡◌, List, ◌++◌, ℕ, ◌≤◌, length}
use Rattle.std.proofs.lemmas.List.Edits.{sets}
use Rattle.rules_tables.specs.Judge.{shape_of}
use Rattle.rules_calls.specs.Answer.{bytes_of, Answer}
use Rattle.rules_log.specs.Log.{Log}
use Rattle.rules_log.specs.Origin.{Begun, records_of}

-- what a run that answers r put into its output: the records that its log has more than the log before. They fit, and r tells how many bytes they are
pub record PutOut (T : List ℕ) (B : Begun) (l l' : Log) (r : Answer) (out out' : List ℕ) : Type 0 where
  pub written : List ℕ
  pub fits : length written ≤ length out
  pub told : bytes_of r ≡ length written
  pub output : out' ≡ sets out 0 written
  pub records : records_of T (shape_of T) B l' ≡ records_of T (shape_of T) B l ++ written
