-- That nothing refuses a call.
use Rattle.std.specs.Prelude.{◌≡◌, ℕ}
use Rattle.rules_tables.specs.Judge.{Verdict, accepted}
use Rattle.rules_calls.specs.Answer.{Answer}

-- ---- a load that is done was not refused
pub record Accepting (v : Verdict) (q : ℕ) : Type 0 where
  pub table : v ≡ accepted
  pub call : q ≡ 0

-- ---- so was a run that tells its moves; d is what it would tell
pub record Running (v : Verdict) (q : ℕ) (r d : Answer) : Type 0 where
  pub table : v ≡ accepted
  pub call : q ≡ 0
  pub is : r ≡ d
