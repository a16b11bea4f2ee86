-- The definition cases as the program has them: a row of numbers each.
use Rattle.std.specs.Prelude.{List, [], ◌∷◌, ◌++◌, map, ℕ, ◌+◌, ◌≤◌, get_or, length}
use Rattle.rules_numbers.specs.Word.{word}
use Rattle.rules_numbers.specs.Bytes.{half_at}
use Rattle.rules_calls.specs.Public.{Call as «CallOf», load, advance, arrival, run}
use Rattle.cases.specs.Cases.{Table, doubler, repeated, delayed, paired, prompt, frames_in, Asked, answer, recorded, due, counted, result, Case, cases}
use Rattle.cases_main.specs.declared.data.Frame.{Frame}
use Rattle.cases_main.specs.declared.data.Call.{Call}
use Rattle.cases_main.specs.declared.data.Row.{Row}

-- ---- frames: kind, flag, a to e
abbrev as_frame : List ℕ → Frame
as_frame x = (get_or x 0 0, get_or x 1 0, half_at x 2, half_at x 4, half_at x 6, half_at x 8, half_at x 10)

abbrev pub no_frame : Frame
no_frame = (0, 0, 0, 0, 0, 0, 0)

unfoldable pub frames : List Frame
frames = map as_frame (frames_in repeated ++ frames_in delayed ++ frames_in paired ++ frames_in prompt)

-- ---- calls
abbrev pub as_call : «CallOf» → Call
as_call load = (1, 0, 0)
as_call (advance t) = (2, t, 0)
as_call (arrival o birth []) = (3, birth, o)
as_call (arrival o birth (v ∷ vs)) = (4, birth, v)
as_call (run b) = (5, b, 0)

abbrev pub no_call : Call
no_call = (0, 0, 0)

-- the calls that come before a case's own, on the worked table, on the delay's, the two delays' and the prompt one's: those of the longest case of each
abbrev pub calls : List Call
calls =
    map as_call
    (load ∷
    advance 10 ∷
    arrival 0 7 (21 ∷ []) ∷
    arrival 0 8 (1073741824 ∷ []) ∷
    load ∷
    advance 100 ∷
    arrival 0 100 [] ∷
    run 100 ∷
    advance 120 ∷
    arrival 0 120 [] ∷
    run 100 ∷
    advance 150 ∷
    arrival 0 150 [] ∷
    run 100 ∷
    advance 160 ∷
    arrival 1 160 [] ∷
    run 100 ∷
    arrival 0 160 [] ∷
    run 100 ∷
    load ∷
    advance 100 ∷
    arrival 0 100 [] ∷
    run 100 ∷
    advance 120 ∷
    arrival 1 120 [] ∷
    run 100 ∷
    arrival 2 120 [] ∷
    run 100 ∷
    arrival 0 120 [] ∷
    run 100 ∷
    advance 170 ∷
    load ∷
    arrival 0 0 [] ∷
    run 100 ∷ advance 0 ∷ [])

-- ---- rows
abbrev as_table : Table → ℕ
as_table doubler = 0
as_table repeated = 1
as_table delayed = 2
as_table paired = 3
as_table prompt = 4

-- where its calls begin
abbrev first : Table → ℕ
first doubler = 0
first repeated = 0
first delayed = 4
first paired = 19
first prompt = 31

-- of a call and what must come out
abbrev row : ℕ → ℕ → ℕ → ℕ → ℕ → ℕ → Call → List ℕ → Row
row asked table words room from to c w =
    (asked, table, words, room, from, to, c.0, c.1, c.2, get_or w 0 0, get_or w 1 0, get_or w 2 0, get_or w 3 0, get_or w 4 0, get_or w 5 0)

abbrev as_row : Asked → List ℕ → Row
as_row (answer t words room cs c) w = row 0 (as_table t) words room (first t) (first t + length cs) (as_call c) w
as_row (recorded t words room cs b) w = row 1 (as_table t) words room (first t) (first t + length cs) (as_call (run b)) w
as_row (due t words room cs) w = row 2 (as_table t) words room (first t) (first t + length cs) no_call w
as_row (counted t words room cs n b) w = row 3 (as_table t) words room (first t) (first t + length cs) (6, b, n) w
as_row (result op b c) w = row 4 0 0 0 0 0 (op, word b, word c) w

abbrev pub rows : List Row
rows = map (λ (k : Case). as_row k.asked k.want) cases

abbrev pub no_row : Row
no_row = (0, 0, 0, 0, 0, 0, 0, 0, 0, 0, 0, 0, 0, 0, 0)

-- ---- a row that fits the program's buffers
pub record Fits (r : Row) : Type 0 where
  pub words : r.2 ≤ 41
  pub room : r.3 ≤ 4096
  pub last : r.5 ≤ 35
