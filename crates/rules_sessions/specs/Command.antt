-- "80 advance (a, b time), 81 arrival (flag number of values, a event, b, c birth) followed by that many 82 (b, c value), 83 run (a, b budget). Halves are high
-- first; fields not named are zero."
use Rattle.std.specs.Prelude.{ℕ, ◌+◌, ◌*◌, List, Bool, eqb}
use Rattle.rules_walks.specs.Pick.{pick, both}
use Rattle.rules_tables.specs.Frame.{kind_at, flag_at, field_at}
use Rattle.rules_sessions.specs.declared.Command.{Command}
use Rattle.rules_sessions.specs.declared.Command.TheVariants.{Wrong, Advance, Arrival, Value, Run}
use Rattle.rules_sessions.specs.Line.{line_ok, line_frame}

-- fields j and j + 1 of a frame as one number
unfoldable pub long_at : List ℕ → ℕ → ℕ
long_at F j = field_at F 0 j * 65536 + field_at F 0 (j + 1)

-- fields d and e are zero
unfoldable pub last_clear : List ℕ → Bool
last_clear F = both (eqb (field_at F 0 3) 0) (eqb (field_at F 0 4) 0)

-- flag, c, d and e are zero
unfoldable pub plain : List ℕ → Bool
plain F = both (eqb (flag_at F 0) 0) (both (eqb (field_at F 0 2) 0) (last_clear F))

unfoldable pub advance_of : List ℕ → Command
advance_of F = pick (plain F) (Advance (long_at F 0)) Wrong

unfoldable pub arrival_of : List ℕ → Command
arrival_of F = pick (last_clear F) (Arrival (flag_at F 0) (field_at F 0 0) (long_at F 1)) Wrong

unfoldable pub value_of : List ℕ → Command
value_of F = pick (both (eqb (flag_at F 0) 0) (both (eqb (field_at F 0 0) 0) (last_clear F))) (Value (long_at F 1)) Wrong

unfoldable pub run_of : List ℕ → Command
run_of F = pick (plain F) (Run (long_at F 0)) Wrong

-- by the kind byte
abbrev pub command_by : ℕ → List ℕ → Command
command_by k F =
    pick (eqb k 128) (advance_of F) (pick (eqb k 129) (arrival_of F) (pick (eqb k 130) (value_of F) (pick (eqb k 131) (run_of F) Wrong)))

unfoldable pub command_of : List ℕ → Command
command_of F = command_by (kind_at F 0) F

-- what a line asks for
unfoldable pub line_command : List ℕ → Command
line_command L = pick (line_ok L) (command_of (line_frame L)) Wrong
