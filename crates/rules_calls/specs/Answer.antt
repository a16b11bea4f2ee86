-- What a call answers, by document 01's numbers. "A refusal returns its number, the frame for 2 to 4 (else 0) and zero counts; nothing is written."
use Rattle.std.specs.Prelude.{ℕ, List, eqb, Result, Ok, Err}
use Rattle.rules_walks.specs.Pick.{pick}
use Rattle.rules_walks.specs.Choose.{choose}
use Rattle.rules_tables.specs.declared.Refusal.{Refusal}
use Rattle.rules_tables.specs.Judge.{Verdict, accepted, refused, Judged, refusal}
use Rattle.rules_calls.specs.declared.Outcome.{Outcome}
use Rattle.rules_calls.specs.declared.Outcome.TheVariants.{Done, Ran}

-- what a call answers
abbrev pub Answer : Type 0
Answer = Result Outcome Refusal

-- ---- document 01's number, frame, moves, stop number and bytes, and the untrue steps, for each case of an answer
abbrev pub number_of : Answer → ℕ
number_of (Err r) = r.number
number_of (Ok d) = 0

abbrev pub frame_of : Answer → ℕ
frame_of (Err r) = r.frame
frame_of (Ok d) = 0

abbrev pub moves_of : Answer → ℕ
moves_of (Err r) = 0
moves_of (Ok Done) = 0
moves_of (Ok (Ran m b n u)) = m

abbrev pub bytes_of : Answer → ℕ
bytes_of (Err r) = 0
bytes_of (Ok Done) = 0
bytes_of (Ok (Ran m b n u)) = b

abbrev pub stop_of : Answer → ℕ
stop_of (Err r) = 0
stop_of (Ok Done) = 0
stop_of (Ok (Ran m b n u)) = n

-- "The answer of run tells how many it made."
abbrev pub untrue_of : Answer → ℕ
untrue_of (Err r) = 0
untrue_of (Ok Done) = 0
untrue_of (Ok (Ran m b n u)) = u

-- ---- the table's verdict first, then the refusal q of the call, 0 for none
abbrev pub answer_by : Verdict → ℕ → Answer → Answer
answer_by accepted q answer = pick (eqb q 0) answer (Err (refusal q 0))
answer_by (refused p f) q answer = Err (refusal p f)

-- a list (store or output) after the call: as it came, unless nothing refuses
abbrev pub kept_by : Verdict → ℕ → List ℕ → List ℕ → List ℕ
kept_by accepted q s s' = choose (eqb q 0) s' s
kept_by (refused p f) q s s' = s

-- the answer for a table that was not accepted
abbrev pub refused_of : Judged → Answer
refused_of (Ok S) = Ok Done
refused_of (Err r) = Err r
