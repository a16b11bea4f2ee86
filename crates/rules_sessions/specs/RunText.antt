-- What a run prints: "records come before it, a line each".
use Rattle.std.specs.Prelude.{List, ◌++◌, ℕ, take}
use Rattle.rules_tables.specs.Judge.{judged}
use Rattle.rules_calls.specs.Answer.{bytes_of}
use Rattle.rules_calls.specs.Public.{run_answered, run_output}
use Rattle.rules_sessions.specs.AnswerLine.{answer_line}
use Rattle.rules_sessions.specs.RecordLines.{records_by}

-- "records come before it, a line each"
abbrev pub run_text : List ℕ → List ℕ → ℕ → List ℕ → List ℕ
run_text T s b out = records_by (judged T) T (take (bytes_of (run_answered T s b out)) (run_output T s b out)) ++ answer_line (run_answered T s b out)
