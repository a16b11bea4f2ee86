-- The public calls: what each answers and leaves, and the statement that its code is proved to meet. "Number 1 comes first. Of 2, 3 and 4, the lowest
-- faulty frame is named, and on it the lowest number. Then 5, 6 and the call's own, rising."
use Rattle.std.specs.Prelude.{ℕ, ◌≡◌, List, eqb, length, Ok}
use Rattle.std.proofs.lemmas.List.Edits.{sets}
use Rattle.rules_walks.specs.Pick.{pick}
use Rattle.rules_tables.specs.declared.Shape.{Shape}
use Rattle.rules_tables.specs.Judge.{Verdict, accepted, refused, frame, judge, shape_of}
use Rattle.rules_store.specs.Word.{now_of}
use Rattle.rules_store.specs.Load.{loaded}
use Rattle.rules_calls.specs.Run.{after, bytes, untrue_in, made, stop_after}
use Rattle.rules_calls.specs.Calls.{advanced, arrived}
use Rattle.rules_calls.specs.Answer.{number_of, frame_of, moves_of, bytes_of, stop_of, untrue_of, answer_by, kept_by, Answer}
use Rattle.rules_calls.specs.Refusals.{load_refusal, store_refusal, advance_refusal, arrival_refusal}
use Rattle.rules_calls.specs.declared.Outcome.TheVariants.{Done, Ran}

-- ---- what each call answers and leaves
-- a call with its arguments
pub data Call : Type 0 where
  load : Call
  advance : ℕ → Call
  arrival : ℕ → ℕ → List ℕ → Call
  run : ℕ → Call

-- why it is refused past 4, 0 for none
abbrev pub refusal_of : List ℕ → Shape → List ℕ → Call → ℕ
refusal_of T S s load = load_refusal S s
refusal_of T S s (advance t) = advance_refusal T S s t
refusal_of T S s (arrival o birth values) = arrival_refusal T S s o birth values
refusal_of T S s (run budget) = store_refusal T S s

-- how many moves a run makes with so much room for output
abbrev pub run_moves : List ℕ → List ℕ → ℕ → ℕ → ℕ
run_moves T s budget room = made T (shape_of T) (now_of s) budget room s

abbrev pub run_answer : List ℕ → List ℕ → ℕ → ℕ → ℕ → Answer
run_answer T s budget room m =
    Ok (Ran m (length (bytes T (shape_of T) (now_of s) m s)) (stop_after T (shape_of T) (now_of s) room s m) (untrue_in T (shape_of T) (now_of s) m s))

-- what it answers where nothing refuses it, and the store that it leaves then
abbrev pub done_answer : List ℕ → ℕ → List ℕ → Call → Answer
done_answer T room s load = Ok Done
done_answer T room s (advance t) = Ok Done
done_answer T room s (arrival o birth values) = Ok Done
done_answer T room s (run budget) = run_answer T s budget room (run_moves T s budget room)

abbrev pub done_store : List ℕ → ℕ → List ℕ → Call → List ℕ
done_store T room s load = loaded T (shape_of T) s
done_store T room s (advance t) = advanced T (shape_of T) t s
done_store T room s (arrival o birth values) = arrived T (shape_of T) o birth values s
done_store T room s (run budget) = after T (shape_of T) (now_of s) (run_moves T s budget room) s

-- the answer and the store after it, by the verdict v on the table
abbrev pub answer_of : Verdict → List ℕ → ℕ → List ℕ → Call → Answer
answer_of v T room s c = answer_by v (refusal_of T (shape_of T) s c) (done_answer T room s c)

abbrev pub store_of : Verdict → List ℕ → ℕ → List ℕ → Call → List ℕ
store_of v T room s c = kept_by v (refusal_of T (shape_of T) s c) s (done_store T room s c)

-- ---- each call by itself
abbrev pub load_answer : List ℕ → List ℕ → Answer
load_answer T s = answer_of (judge T) T 0 s load

abbrev pub load_store : List ℕ → List ℕ → List ℕ
load_store T s = store_of (judge T) T 0 s load

abbrev pub advance_answer : List ℕ → List ℕ → ℕ → Answer
advance_answer T s t = answer_of (judge T) T 0 s (advance t)

abbrev pub advance_store : List ℕ → List ℕ → ℕ → List ℕ
advance_store T s t = store_of (judge T) T 0 s (advance t)

abbrev pub arrival_answer : List ℕ → List ℕ → ℕ → ℕ → List ℕ → Answer
arrival_answer T s o birth values = answer_of (judge T) T 0 s (arrival o birth values)

abbrev pub arrival_store : List ℕ → List ℕ → ℕ → ℕ → List ℕ → List ℕ
arrival_store T s o birth values = store_of (judge T) T 0 s (arrival o birth values)

-- a run into the output buffer `out`
abbrev pub run_answered : List ℕ → List ℕ → ℕ → List ℕ → Answer
run_answered T s budget out = answer_of (judge T) T (length out) s (run budget)

abbrev pub run_store : List ℕ → List ℕ → ℕ → List ℕ → List ℕ
run_store T s budget out = store_of (judge T) T (length out) s (run budget)

abbrev pub run_output : List ℕ → List ℕ → ℕ → List ℕ → List ℕ
run_output T s budget out = kept_by (judge T) (store_refusal T (shape_of T) s) out (sets out 0 (bytes T (shape_of T) (now_of s) (run_moves T s budget (length out)) s))

-- ---- the same by document 01's numbers: "A refusal returns its number, the frame for 2 to 4 (else 0) and zero counts"
-- the number: the table's verdict first, then the refusal q of the call
abbrev pub number_by : Verdict → ℕ → ℕ
number_by accepted q = q
number_by (refused p f) q = p

-- a count of a run: 0 where it is refused
abbrev pub count_by : Verdict → ℕ → ℕ → ℕ
count_by accepted q n = pick (eqb q 0) n 0
count_by (refused p f) q n = 0

pub record Tells (r : Answer) (number frame moves bytes stop untrue : ℕ) : Type 0 where
  pub number_is : number_of r ≡ number
  pub frame_is : frame_of r ≡ frame
  pub moves_are : moves_of r ≡ moves
  pub bytes_are : bytes_of r ≡ bytes
  pub stop_is : stop_of r ≡ stop
  pub untrue_are : untrue_of r ≡ untrue

-- ---- the calls: answer r, store s' and output out' after a call on table T and store s
pub record LoadCall (T s : List ℕ) (r : Answer) (s' : List ℕ) : Type 0 where
  pub answer : r ≡ load_answer T s
  pub tells : Tells r (number_by (judge T) (load_refusal (shape_of T) s)) (frame (judge T)) 0 0 0 0
  pub store : s' ≡ load_store T s

pub record AdvanceCall (T s : List ℕ) (t : ℕ) (r : Answer) (s' : List ℕ) : Type 0 where
  pub answer : r ≡ advance_answer T s t
  pub tells : Tells r (number_by (judge T) (advance_refusal T (shape_of T) s t)) (frame (judge T)) 0 0 0 0
  pub store : s' ≡ advance_store T s t

pub record ArrivalCall (T s : List ℕ) (o birth : ℕ) (values : List ℕ) (r : Answer) (s' : List ℕ) : Type 0 where
  pub answer : r ≡ arrival_answer T s o birth values
  pub tells : Tells r (number_by (judge T) (arrival_refusal T (shape_of T) s o birth values)) (frame (judge T)) 0 0 0 0
  pub store : s' ≡ arrival_store T s o birth values

-- a run's store is the one after the moves that it tells, its output has what these wrote, and the untrue steps are those among them; a refused run tells none
pub record RunCall (T s : List ℕ) (budget : ℕ) (out : List ℕ) (r : Answer) (s' out' : List ℕ) : Type 0 where
  pub answer : r ≡ run_answered T s budget out
  pub tells :
      Tells r (number_by (judge T) (store_refusal T (shape_of T) s)) (frame (judge T))
      (count_by (judge T) (store_refusal T (shape_of T) s) (run_moves T s budget (length out)))
      (length (bytes T (shape_of T) (now_of s) (moves_of r) s))
      (count_by (judge T) (store_refusal T (shape_of T) s) (stop_after T (shape_of T) (now_of s) (length out) s (moves_of r)))
      (untrue_in T (shape_of T) (now_of s) (moves_of r) s)
  pub store : s' ≡ after T (shape_of T) (now_of s) (moves_of r) s
  pub output : out' ≡ sets out 0 (bytes T (shape_of T) (now_of s) (moves_of r) s)
