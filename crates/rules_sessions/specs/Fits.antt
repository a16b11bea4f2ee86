-- The numbers of an answer fit their places in its line.
use Rattle.std.specs.Prelude.{◌<◌}
use Rattle.rules_calls.specs.Answer.{number_of, frame_of, moves_of, stop_of, bytes_of, Answer}

pub record Fits (a : Answer) : Type 0 where
  pub number : number_of a < 256
  pub frame : frame_of a < 65536
  pub moves_few : moves_of a < 4294967296
  pub stop : stop_of a < 65536
  pub bytes_few : bytes_of a < 65536
