-- The worked session of document 01 as a sequence of calls, and its log.
use Rattle.std.specs.Prelude.{List, [], ◌∷◌, ◌++◌, ℕ, replicate}
use Rattle.rules_tables.specs.declared.Shape.{Shape}
use Rattle.rules_tables.specs.Judge.{shape_of}
use Rattle.cases_tables.specs.Worked.{worked, bytes as «bytes_of»}
use Rattle.rules_store.specs.Load.{loaded}
use Rattle.rules_calls.specs.Calls.{advanced, arrived}
use Rattle.rules_log.specs.Log.{begins, goes_on, takes, fires, Log, empty, more, run_log, advance_log, arrival_log}

unfoldable pub table : List ℕ
table = «bytes_of» worked

abbrev pub shape : Shape
shape = shape_of table

-- load, advance to 10, the arrival of 21 born at 7, nine moves
unfoldable pub before : List ℕ
before = advanced table shape 10 (loaded table shape (replicate 39 0))

unfoldable pub log : Log
log =
    run_log table shape 10 9 (arrived table shape 0 7 (21 ∷ []) before)
    (arrival_log table shape 0 7 (21 ∷ []) before (advance_log table shape 10 (loaded table shape (replicate 39 0)) empty))

-- each happening by its numbers: an event input taken; an event output fired, with the birth that it begins with, or none
abbrev pub told : Log → List (List ℕ)
told empty = []
told (more l (takes i s)) = told l ++ ((1 ∷ i ∷ []) ∷ [])
told (more l (fires o (begins t) s)) = told l ++ ((2 ∷ o ∷ t ∷ []) ∷ [])
told (more l (fires o goes_on s)) = told l ++ ((2 ∷ o ∷ []) ∷ [])
