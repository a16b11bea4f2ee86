-- An answer whose refusal number and frame fit one number.
use Rattle.std.specs.Prelude.{◌≤◌}
use Rattle.rules_calls.specs.Answer.{number_of, frame_of, Answer}

-- ---- an answer whose number and frame fit one number
pub record Compact (a : Answer) : Type 0 where
  pub low : number_of a ≤ 11
  pub inside : frame_of a ≤ 4096
