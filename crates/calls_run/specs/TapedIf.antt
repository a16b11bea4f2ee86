-- What a run leaves on its tape, where it has a trace.
use Rattle.std.specs.Prelude.{ℕ, Bool, ◌≡◌, List}
use Rattle.rules_tables.specs.declared.Shape.{Shape}
use Rattle.rules_traces.specs.declared.Entry.{Entry}
use Rattle.moves_tell.specs.declared.tape.Tape.{Tape}
use Rattle.calls_run.specs.declared.running.Ran.{Ran}
use Rattle.calls_run.specs.RunMade.{ToldIf, RanAs}

-- these frames are told
pub record TapedIf (tracing : Bool) (es : List Entry) (t t' : Tape) : Type 0 where
  pub told_if : ToldIf tracing es t.at t.bytes.now t'.bytes.now t'.at
  pub same : t'.bytes.ghost_name ≡ t.bytes.ghost_name

pub record RanOn (tracing : Bool) (T : List ℕ) (S : Shape) (time budget : ℕ) (s out : List ℕ) (t : Tape) (r : Ran) (s' out' : List ℕ) (t' : Tape) : Type 0 where
  pub ran_as : RanAs tracing T S time budget s out t.bytes.now r s' out' t'.bytes.now
  pub same : t'.bytes.ghost_name ≡ t.bytes.ghost_name
