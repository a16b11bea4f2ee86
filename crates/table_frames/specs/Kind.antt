-- The number of a kind of frames: its kind byte.
use Rattle.std.specs.Prelude.{ℕ}
use Rattle.table_frames.specs.declared.kind.Kind.{Kind}
use Rattle.table_frames.specs.declared.kind.Kind.TheVariants.{Zero, Element, EventInput, EventOutput, Variable, Association, ChartState, Transition, Action, Step, EventConnection, DataConnection}

abbrev pub kind_number : Kind → ℕ
kind_number Zero = 0
kind_number Element = 1
kind_number EventInput = 2
kind_number EventOutput = 3
kind_number Variable = 4
kind_number Association = 5
kind_number ChartState = 6
kind_number Transition = 7
kind_number Action = 8
kind_number Step = 9
kind_number EventConnection = 10
kind_number DataConnection = 11
