-- Which line of a session asks for a run, and where the session stands then. A session takes a line in two steps: the first line beginning 80 to 83 loads the
-- table, and then it is judged.
use Rattle.std.specs.Prelude.{List, Bool, true, false, ℕ, Option, Some, None}
use Rattle.rules_walks.specs.Choose.{choose}
use Rattle.rules_sessions.specs.Line.{opens}
use Rattle.rules_sessions.specs.declared.Command.{Command}
use Rattle.rules_sessions.specs.declared.Command.TheVariants.{Wrong, Advance, Arrival, Value, Run}
use Rattle.rules_sessions.specs.Session.{Stage, tabled, calling, awaiting, halted, load_deed}
use Rattle.session_dialogue.specs.declared.session.Phase.{Phase}
use Rattle.session_dialogue.specs.declared.session.Phase.TheVariants.{Table, Calls, Values, Stopped}

abbrev pub is_table : Phase → Bool
is_table Table = true
is_table Calls = false
is_table (Values a) = false
is_table Stopped = false

-- the stage in which line L is judged
abbrev pub opened_stage : Stage → List ℕ → Stage
opened_stage (tabled T s) L = choose (opens L) (load_deed T s).stage (tabled T s)
opened_stage (calling T s) L = calling T s
opened_stage (awaiting T s n event birth vs) L = awaiting T s n event birth vs
opened_stage halted L = halted

-- the budget of the run that it asks for there, if it asks for one
abbrev pub asked_by : Command → Option ℕ
asked_by Wrong = None
asked_by (Advance t) = None
asked_by (Arrival n event birth) = None
asked_by (Value v) = None
asked_by (Run b) = Some b

abbrev pub asked_in : Phase → Command → Option ℕ
asked_in Table c = None
asked_in Calls c = asked_by c
asked_in (Values a) c = None
asked_in Stopped c = None
