-- "The step program": what a session prints, over the lines of its input. Its only sizes are those of the store and of the output buffer.
use Rattle.std.specs.Prelude.{List, [], ◌∷◌, ◌++◌, ℕ, eqb, length, replicate, Ok, Err}
use Rattle.rules_walks.specs.Choose.{choose}
use Rattle.rules_sessions.specs.declared.Command.{Command}
use Rattle.rules_sessions.specs.declared.Command.TheVariants.{Wrong, Advance, Arrival, Value, Run}
use Rattle.rules_sessions.specs.Line.{line_ok, line_frame, opens}
use Rattle.rules_sessions.specs.Command.{line_command}
use Rattle.rules_sessions.specs.AnswerLine.{answer_line, malformed_line}
use Rattle.rules_calls.specs.Public.{load_answer, load_store, advance_answer, advance_store, arrival_answer, arrival_store, run_store}
use Rattle.rules_calls.specs.Answer.{Answer}
use Rattle.rules_calls.specs.declared.Outcome.TheVariants.{Done, Ran}
use Rattle.rules_sessions.specs.RunText.{run_text}

-- "Standard input has lines (ended by 0A, the last perhaps not)": the lines of L followed by the bytes; nothing after the last 0A is no line
unfoldable pub lines_from : List ℕ → List ℕ → List (List ℕ)
lines_from L [] = choose (eqb (length L) 0) [] (L ∷ [])
lines_from L (b ∷ bs) = choose (eqb b 10) (L ∷ lines_from [] bs) (lines_from (L ++ (b ∷ [])) bs)

abbrev pub lines_of : List ℕ → List (List ℕ)
lines_of input = lines_from [] input

-- where a session stands between two lines; T is the table, the bytes of its frames, and s the store
pub data Stage : Type 0 where
  -- "Table frames come first": T is the table so far
  tabled : (T s : List ℕ) → Stage
  -- then calls
  calling : (T s : List ℕ) → Stage
  -- an arrival waits for its values: how many, the event, its birth, and those that came
  awaiting : (T s : List ℕ) (n event birth : ℕ) (vs : List ℕ) → Stage
  halted : Stage

-- what a line does: where the session stands after it, and what is printed
pub record Deed : Type 0 where
  pub stage : Stage
  pub text : List ℕ

abbrev pub silent : Stage → Deed
silent g = record { stage = g; text = [] }

-- one after another
abbrev pub and_then : Deed → (Stage → Deed) → Deed
and_then d f = record { stage = (f d.stage).stage; text = d.text ++ (f d.stage).text }

-- "A line of any other form or place, or a missing 82: print C0FF and twenty zeros, stop."
abbrev pub malformed : Deed
malformed = record { stage = halted; text = malformed_line }

-- ---- the load: "A refused load stops the program."
abbrev pub after_load : Answer → List ℕ → List ℕ → Stage
after_load (Err r) T s = halted
after_load (Ok Done) T s = calling T s
after_load (Ok (Ran m b n u)) T s = calling T s

unfoldable pub load_deed : List ℕ → List ℕ → Deed
load_deed T s = record { stage = after_load (load_answer T s) T (load_store T s); text = answer_line (load_answer T s) }

-- ---- the calls: "80 advance .., 81 arrival .. followed by that many 82 .., 83 run"
unfoldable pub advance_deed : List ℕ → List ℕ → ℕ → Deed
advance_deed T s t = record { stage = calling T (advance_store T s t); text = answer_line (advance_answer T s t) }

unfoldable pub arrival_deed : List ℕ → List ℕ → ℕ → ℕ → List ℕ → Deed
arrival_deed T s event birth vs = record { stage = calling T (arrival_store T s event birth vs); text = answer_line (arrival_answer T s event birth vs) }

-- "The output buffer has 4,096 bytes, cleared before each run."
abbrev pub cleared : List ℕ
cleared = replicate 4096 0

unfoldable pub run_deed : List ℕ → List ℕ → ℕ → Deed
run_deed T s b = record { stage = calling T (run_store T s b cleared); text = run_text T s b cleared }

-- an arrival is made when its values have come, n of them
unfoldable pub arrival_by : List ℕ → List ℕ → ℕ → ℕ → ℕ → List ℕ → Deed
arrival_by T s n event birth vs = choose (eqb (length vs) n) (arrival_deed T s event birth vs) (silent (awaiting T s n event birth vs))

-- a line where a call is expected
abbrev pub call_by : List ℕ → List ℕ → Command → Deed
call_by T s Wrong = malformed
call_by T s (Advance t) = advance_deed T s t
call_by T s (Arrival n event birth) = arrival_by T s n event birth []
call_by T s (Value v) = malformed
call_by T s (Run b) = run_deed T s b

-- a line where a value is expected
abbrev pub value_by : List ℕ → List ℕ → ℕ → ℕ → ℕ → List ℕ → Command → Deed
value_by T s n event birth vs Wrong = malformed
value_by T s n event birth vs (Advance t) = malformed
value_by T s n event birth vs (Arrival m e b) = malformed
value_by T s n event birth vs (Value v) = arrival_by T s n event birth (vs ++ (v ∷ []))
value_by T s n event birth vs (Run b) = malformed

-- ---- "each line before is a table frame". A table of more than 4,096 lines is refused by its length, refusal 1 (`many_lines` in laws/Session).
unfoldable pub frame_deed : List ℕ → List ℕ → List ℕ → Deed
frame_deed T s L = choose (line_ok L) (silent (tabled (T ++ line_frame L) s)) malformed

-- a line after the load: it is judged where calls follow
abbrev pub judged_line : List ℕ → Stage → Deed
judged_line L (tabled T s) = silent (tabled T s)
judged_line L (calling T s) = call_by T s (line_command L)
judged_line L (awaiting T s n event birth vs) = silent (awaiting T s n event birth vs)
judged_line L halted = silent halted

-- ---- a line: "The first line beginning 80 to 83, or the end, ends the table and starts the load, before it is judged"
abbrev pub line_deed : Stage → List ℕ → Deed
line_deed (tabled T s) L = choose (opens L) (and_then (load_deed T s) (judged_line L)) (frame_deed T s L)
line_deed (calling T s) L = call_by T s (line_command L)
line_deed (awaiting T s n event birth vs) L = value_by T s n event birth vs (line_command L)
line_deed halted L = silent halted

-- the end of the input
abbrev pub end_deed : Stage → Deed
end_deed (tabled T s) = load_deed T s
end_deed (calling T s) = silent (calling T s)
end_deed (awaiting T s n event birth vs) = malformed
end_deed halted = silent halted

-- ---- a whole input: what its lines print from a stage on, and then its end
unfoldable pub lines_print : Stage → List (List ℕ) → List ℕ
lines_print g [] = (end_deed g).text
lines_print g (L ∷ Ls) = (line_deed g L).text ++ lines_print (line_deed g L).stage Ls

-- with any store
unfoldable pub prints_with : List ℕ → List ℕ → List ℕ
prints_with s input = lines_print (tabled [] s) (lines_of input)

-- "The store has 2,000 words."
abbrev pub prints : List ℕ → List ℕ
prints input = prints_with (replicate 2000 0) input
