-- A second network, with an interface, a delay and an event that is overwritten: a source, an interface that passes its value on, a delay of 5 that the
-- interface starts, and a sink that hears both.
use Rattle.std.specs.Prelude.{List, [], ◌∷◌, ℕ, replicate}
use Rattle.rules_tables.specs.declared.Shape.{Shape}
use Rattle.rules_tables.specs.Judge.{shape_of}
use Rattle.rules_store.specs.Load.{loaded}
use Rattle.rules_calls.specs.Run.{after}
use Rattle.rules_calls.specs.Calls.{advanced, arrived}
use Rattle.rules_log.specs.Log.{Log, empty, run_log, advance_log, arrival_log}
use Rattle.cases_tables.specs.Worked.{frame, bytes as «bytes_of»}

unfoldable pub frames : List (List ℕ)
frames =
    -- 0 source, 1 interface, 2 delay, 3 sink
    frame 1 3 0 0 0 0 0 ∷
    frame 1 1 1 0 0 0 0 ∷
    frame 1 2 2 0 0 0 0 ∷
    frame 1 4 3 0 0 0 0 ∷
    -- event inputs: 0 the interface's, 1 START and 2 STOP, 3 the sink's
    frame 2 0 1 0 0 0 0 ∷
    frame 2 0 2 0 0 0 0 ∷
    frame 2 1 2 0 0 0 0 ∷
    frame 2 0 3 0 0 0 0 ∷
    -- event outputs: 0 the source's, 1 the interface's, 2 the delay's
    frame 3 0 0 0 0 0 0 ∷
    frame 3 0 1 0 0 0 0 ∷
    frame 3 0 2 0 0 0 0 ∷
    -- variables: 0 the source's, 1 and 2 the interface's, 3 DT, 4 the sink's
    frame 4 1 0 0 0 0 0 ∷
    frame 4 0 1 0 0 0 0 ∷
    frame 4 1 1 0 0 0 0 ∷
    frame 4 0 2 0 5 0 0 ∷
    frame 4 0 3 0 0 0 0 ∷
    frame 5 0 0 1 0 0 0 ∷
    frame 5 0 3 4 0 0 0 ∷
    frame 5 1 0 0 0 0 0 ∷
    frame 10 0 0 0 0 0 0 ∷
    frame 10 0 1 1 0 0 0 ∷
    frame 10 0 1 3 0 0 0 ∷
    frame 10 0 2 3 0 0 0 ∷
    frame 11 0 0 1 0 0 0 ∷
    frame 11 0 2 4 0 0 0 ∷ []

unfoldable pub network : List ℕ
network = «bytes_of» frames

abbrev pub outline : Shape
outline = shape_of network

-- load, advance to 10, an arrival born at 3 with 21, another born at 8 with 22, which overwrites it; three moves; advance to 15, when the delay is due; one move
unfoldable pub ten : List ℕ
ten = advanced network outline 10 (loaded network outline (replicate 50 0))

unfoldable pub twice : List ℕ
twice = arrived network outline 0 8 (22 ∷ []) (arrived network outline 0 3 (21 ∷ []) ten)

unfoldable pub due : List ℕ
due = after network outline 10 3 twice

unfoldable pub fifteen : List ℕ
fifteen = advanced network outline 15 due

abbrev pub to_twice : Log
to_twice =
    arrival_log network outline 0 8 (22 ∷ []) (arrived network outline 0 3 (21 ∷ []) ten)
    (arrival_log network outline 0 3 (21 ∷ []) ten (advance_log network outline 10 (loaded network outline (replicate 50 0)) empty))

abbrev pub to_fifteen : Log
to_fifteen = advance_log network outline 15 due (run_log network outline 10 3 twice to_twice)

abbrev pub to_end : Log
to_end = run_log network outline 15 1 fifteen to_fifteen
