-- Document 01's "Examples to prove", and document 02's of a second START, of the next due time and of the count of untrue steps: one table of definition cases.
-- The one claim over it is in Claim.
use Rattle.std.specs.Prelude.{List, [], ◌∷◌, ◌++◌, ℕ, ◌+◌, ◌*◌, ℤ, pos, neg_ℤ, replicate}
use Rattle.rules_numbers.specs.Word.{word}
use Rattle.rules_numbers.specs.Bytes.{word_at}
use Rattle.rules_numbers.specs.declared.Outcome.{Outcome}
use Rattle.rules_numbers.specs.Clip.{lowest, highest}
use Rattle.rules_numbers.specs.Truth.{outcome}
use Rattle.rules_tables.specs.Judge.{Verdict}
use Rattle.cases_tables.specs.Worked.{frame, worked, bytes}
use Rattle.rules_walks.specs.Pick.{pick}
use Rattle.rules_store.specs.Word.{due_flag, due_time, next_due, untrue, put_untrue}
use Rattle.rules_calls.specs.Answer.{untrue_of}
use Rattle.rules_calls.specs.Public.{Call, load, advance, arrival, run, store_of, answer_of}
use Rattle.cases.specs.Script.{stored, answered, printed}

-- ---- the tables of the examples
pub data Table : Type 0 where
  -- "A source, a block that doubles, a sink"
  doubler : Table
  -- "last frame given twice"
  repeated : Table
  -- a source that starts and stops a delay with DT 50, and a sink that hears it
  delayed : Table
  -- a source that starts two delays with DT 50, elements 1 and 2, and stops the first
  paired : Table
  -- a source that starts a delay with DT -1, which counts as 0
  prompt : Table

unfoldable pub frames_in : Table → List (List ℕ)
frames_in doubler = worked
frames_in repeated = worked ++ (frame 11 0 2 3 0 0 0 ∷ [])
frames_in delayed =
    frame 1 3 0 0 0 0 0 ∷
    frame 1 2 1 0 0 0 0 ∷
    frame 1 4 2 0 0 0 0 ∷
    frame 2 0 1 0 0 0 0 ∷
    frame 2 1 1 0 0 0 0 ∷
    frame 2 0 2 0 0 0 0 ∷
    frame 3 0 0 0 0 0 0 ∷
    frame 3 0 0 0 0 0 0 ∷
    frame 3 0 1 0 0 0 0 ∷
    frame 4 0 1 0 50 0 0 ∷
    frame 10 0 0 0 0 0 0 ∷
    frame 10 0 1 1 0 0 0 ∷
    frame 10 0 2 2 0 0 0 ∷ []
frames_in paired =
    frame 1 3 0 0 0 0 0 ∷
    frame 1 2 1 0 0 0 0 ∷
    frame 1 2 2 0 0 0 0 ∷
    frame 2 0 1 0 0 0 0 ∷
    frame 2 1 1 0 0 0 0 ∷
    frame 2 0 2 0 0 0 0 ∷
    frame 2 1 2 0 0 0 0 ∷
    frame 3 0 0 0 0 0 0 ∷
    frame 3 0 0 0 0 0 0 ∷
    frame 3 0 0 0 0 0 0 ∷
    frame 3 0 1 0 0 0 0 ∷
    frame 3 0 2 0 0 0 0 ∷
    frame 4 0 1 0 50 0 0 ∷
    frame 4 0 2 0 50 0 0 ∷
    frame 10 0 0 0 0 0 0 ∷
    frame 10 0 1 2 0 0 0 ∷
    frame 10 0 2 1 0 0 0 ∷ []
frames_in prompt =
    frame 1 3 0 0 0 0 0 ∷
    frame 1 2 1 0 0 0 0 ∷
    frame 2 0 1 0 0 0 0 ∷
    frame 2 1 1 0 0 0 0 ∷
    frame 3 0 0 0 0 0 0 ∷
    frame 3 0 1 0 0 0 0 ∷
    frame 4 0 1 65535 65535 0 0 ∷
    frame 10 0 0 0 0 0 0 ∷ []

abbrev pub table_of : Table → List ℕ
table_of t = bytes (frames_in t)

-- ---- what is asked. Of calls: on which table, with how many words of store (each 7 at first), with how much room for output, after which calls
pub data Asked : Type 0 where
  -- what this call answers: refusal, frame, moves, stop number, bytes, untrue steps
  answer : Table → ℕ → ℕ → List Call → Call → Asked
  -- the record that a run with this budget writes, as words
  recorded : Table → ℕ → ℕ → List Call → ℕ → Asked
  -- due flag and due time of element 1, and the next due time: whether something is due, and when
  due : Table → ℕ → ℕ → List Call → Asked
  -- the untrue steps that a run with this budget tells, and word 11 after it, where that held so many before
  counted : Table → ℕ → ℕ → List Call → ℕ → ℕ → Asked
  -- the result of an operation on two values, as a word, and 1 where it is the true one, else 0
  result : ℕ → ℤ → ℤ → Asked

pub record Case : Type 0 where
  pub asked : Asked
  pub want : List ℕ

abbrev gives : Asked → List ℕ → Case
gives a w = record { asked = a; want = w }

-- a record of 20 bytes: element and event input; birth; last update; now; one value
abbrev pub words_of : List ℕ → List ℕ
words_of b = word_at b 0 ∷ word_at b 4 ∷ word_at b 8 ∷ word_at b 12 ∷ word_at b 16 ∷ []

-- the untrue steps that a call tells, and the store's count of them after it
abbrev counted_by : Verdict → List ℕ → ℕ → List ℕ → Call → List ℕ
counted_by v T room s c = untrue_of (answer_of v T room s c) ∷ untrue (store_of v T room s c) ∷ []

abbrev result_words : Outcome → List ℕ
result_words o = word o.result ∷ pick o.is_true 1 0 ∷ []

-- what the definitions tell, by the verdict on each table
abbrev pub tells : (Table → Verdict) → Asked → List ℕ
tells v (answer t words room cs c) = answered (v t) (table_of t) room (replicate words 7) cs c
tells v (recorded t words room cs b) = words_of (printed (table_of t) room (stored (v t) (table_of t) room (replicate words 7) cs) b)
tells v (due t words room cs) = let s = stored (v t) (table_of t) room (replicate words 7) cs in due_flag s 1 ∷ due_time s 1 ∷ (next_due s).due ∷ (next_due s).time ∷ []
tells v (counted t words room cs n b) = counted_by (v t) (table_of t) room (put_untrue n (stored (v t) (table_of t) room (replicate words 7) cs)) (run b)
tells v (result op b c) = result_words (outcome op b c (pos 0))

-- ---- the calls of the examples
-- the worked session before its arrival, and before its run
abbrev before : List Call
before = load ∷ advance 10 ∷ []

abbrev ready : List Call
ready = load ∷ advance 10 ∷ arrival 0 7 (21 ∷ []) ∷ []

-- the same with a second arrival, whose value cannot be doubled
abbrev clipping : List Call
clipping = load ∷ advance 10 ∷ arrival 0 7 (21 ∷ []) ∷ arrival 0 8 (1073741824 ∷ []) ∷ []

-- START taken at 100; and again at 120; and at 150, after the output; and at 160, after a STOP
abbrev started : List Call
started = load ∷ advance 100 ∷ arrival 0 100 [] ∷ run 100 ∷ []

abbrev again : List Call
again = started ++ (advance 120 ∷ arrival 0 120 [] ∷ run 100 ∷ [])

abbrev anew : List Call
anew = again ++ (advance 150 ∷ arrival 0 150 [] ∷ run 100 ∷ [])

abbrev restarted : List Call
restarted = anew ++ (advance 160 ∷ arrival 1 160 [] ∷ run 100 ∷ arrival 0 160 [] ∷ run 100 ∷ [])

-- of the two delays the first is started at 100 and the second at 120; then the first is stopped; started again; and time passes to where both are due
abbrev two : List Call
two = load ∷ advance 100 ∷ arrival 0 100 [] ∷ run 100 ∷ advance 120 ∷ arrival 1 120 [] ∷ run 100 ∷ []

abbrev stopped : List Call
stopped = two ++ (arrival 2 120 [] ∷ run 100 ∷ [])

abbrev together : List Call
together = stopped ++ (arrival 0 120 [] ∷ run 100 ∷ [])

abbrev passed : List Call
passed = together ++ (advance 170 ∷ [])

-- START taken at 0, where now is 0; and time passes to 0
abbrev at_once : List Call
at_once = load ∷ arrival 0 0 [] ∷ run 100 ∷ []

abbrev fired : List Call
fired = at_once ++ (advance 0 ∷ [])

abbrev accepts : List ℕ
accepts = 0 ∷ 0 ∷ 0 ∷ 0 ∷ 0 ∷ 0 ∷ []

abbrev refuses : ℕ → ℕ → List ℕ
refuses q f = q ∷ f ∷ 0 ∷ 0 ∷ 0 ∷ 0 ∷ []

abbrev runs : ℕ → ℕ → ℕ → ℕ → List ℕ
runs moves stop bytes untrues = 0 ∷ 0 ∷ moves ∷ stop ∷ bytes ∷ untrues ∷ []

abbrev minus : ℕ → ℤ
minus n = neg_ℤ (pos n)

-- ---- the table of cases
abbrev pub cases : List Case
cases =
    -- the session above
    gives (answer doubler 40 4096 [] load) accepts ∷
    gives (answer doubler 40 4096 (load ∷ []) (advance 10)) accepts ∷
    gives (answer doubler 40 4096 before (arrival 0 7 (21 ∷ []))) accepts ∷
    gives (answer doubler 40 4096 ready (run 100)) (runs 9 1 20 0) ∷
    gives (recorded doubler 40 4096 ready 100) ((2 * 65536 + 1) ∷ 7 ∷ 10 ∷ 10 ∷ 42 ∷ []) ∷
    -- "its load at 38 words refused 5, at 39 accepted"
    gives (answer doubler 38 4096 [] load) (refuses 5 0) ∷
    gives (answer doubler 39 4096 [] load) accepts ∷
    -- "budget 8 stops with 2, 9 with 1"
    gives (answer doubler 39 4096 ready (run 8)) (runs 8 2 0 0) ∷
    gives (answer doubler 39 4096 ready (run 9)) (runs 9 1 20 0) ∷
    -- "an output of 19 bytes stops with 3 after 8 moves"
    gives (answer doubler 39 19 ready (run 100)) (runs 8 3 0 0) ∷
    -- "birth 11 at now 10 refused 10, birth 10 accepted"
    gives (answer doubler 39 4096 before (arrival 0 11 (21 ∷ []))) (refuses 10 0) ∷
    gives (answer doubler 39 4096 before (arrival 0 10 (21 ∷ []))) accepts ∷
    -- "last frame given twice refused 4 at frame 25"
    gives (answer repeated 39 4096 [] load) (refuses 4 25) ∷
    -- "DT 50 taken at 100 is due at 150, and 151 is refused 8"
    gives (due delayed 40 4096 started) (1 ∷ 150 ∷ 1 ∷ 150 ∷ []) ∷
    gives (answer delayed 40 4096 started (advance 150)) accepts ∷
    gives (answer delayed 40 4096 started (advance 151)) (refuses 8 0) ∷
    -- "with DT 50, START at 100 and again at 120, due stays 150"; after the output, and after a STOP, a START counts
    gives (due delayed 40 4096 again) (1 ∷ 150 ∷ 1 ∷ 150 ∷ []) ∷
    gives (answer delayed 40 4096 again (advance 151)) (refuses 8 0) ∷
    gives (due delayed 40 4096 anew) (1 ∷ 200 ∷ 1 ∷ 200 ∷ []) ∷
    gives (due delayed 40 4096 restarted) (1 ∷ 210 ∷ 1 ∷ 210 ∷ []) ∷
    -- "the two results 2147483647 above": negating the lowest number, and dividing it by -1; neither is the true one
    gives (result 3 lowest (pos 0)) (2147483647 ∷ 0 ∷ []) ∷
    gives (result 5 lowest (minus 1)) (2147483647 ∷ 0 ∷ []) ∷
    -- "-7 divided by 2 is -3", which is true
    gives (result 5 (minus 7) (pos 2)) (word (minus 3) ∷ 1 ∷ []) ∷
    -- "a clipped result and a division by zero are not"; a result at an end of the range may be true
    gives (result 1 highest (pos 1)) (2147483647 ∷ 0 ∷ []) ∷
    gives (result 1 (pos 2147483646) (pos 1)) (2147483647 ∷ 1 ∷ []) ∷
    gives (result 5 (pos 0) (pos 0)) (0 ∷ 0 ∷ []) ∷
    -- "The answer of run tells how many it made": 1073741824 is doubled
    gives (answer doubler 39 4096 clipping (run 100)) (runs 9 1 20 1) ∷
    -- "Word 11 counts untrue steps since load and stops at 4,294,967,295."
    gives (counted doubler 39 4096 clipping 0 100) (1 ∷ 1 ∷ []) ∷
    gives (counted doubler 39 4096 clipping 4294967294 100) (1 ∷ 4294967295 ∷ []) ∷
    gives (counted doubler 39 4096 clipping 4294967295 100) (1 ∷ 4294967295 ∷ []) ∷
    -- "word 9 tells whether a due flag is set, word 10 the earliest time or 0": no delay; two; the earlier stopped; two due at one time, and both fired
    gives (due doubler 39 4096 ready) (0 ∷ 0 ∷ 0 ∷ 0 ∷ []) ∷
    gives (due paired 41 4096 two) (1 ∷ 150 ∷ 1 ∷ 150 ∷ []) ∷
    gives (due paired 41 4096 stopped) (0 ∷ 0 ∷ 1 ∷ 170 ∷ []) ∷
    gives (due paired 41 4096 together) (1 ∷ 170 ∷ 1 ∷ 170 ∷ []) ∷
    gives (answer paired 41 4096 together (advance 171)) (refuses 8 0) ∷
    gives (due paired 41 4096 passed) (0 ∷ 0 ∷ 0 ∷ 0 ∷ []) ∷
    -- due at 0, where now is 0: word 10 is 0 while word 9 is 1
    gives (due prompt 41 4096 at_once) (1 ∷ 0 ∷ 1 ∷ 0 ∷ []) ∷
    gives (due prompt 41 4096 fired) (0 ∷ 0 ∷ 0 ∷ 0 ∷ []) ∷ []
