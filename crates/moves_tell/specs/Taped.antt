-- Frames told on a tape.
use Rattle.std.specs.Prelude.{◌≡◌, List}
use Rattle.rules_traces.specs.declared.Entry.{Entry}
use Rattle.moves_tell.specs.Told.{Told, Room}
use Rattle.moves_tell.specs.declared.tape.Tape.{Tape}

abbrev pub Space : List Entry → Tape → Type 0
Space es t = Room es t.at t.bytes.now

pub record Taped (es : List Entry) (t t' : Tape) : Type 0 where
  pub told : Told es t.at t.bytes.now t'.bytes.now t'.at
  pub same : t'.bytes.ghost_name ≡ t.bytes.ghost_name
