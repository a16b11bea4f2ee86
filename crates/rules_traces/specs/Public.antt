-- The public calls of the trace: what each answers and leaves, and the statement that its code is proved to meet.
use Rattle.std.specs.Prelude.{ℕ, ◌≡◌, List, length, Ok}
use Rattle.std.proofs.lemmas.List.Edits.{sets}
use Rattle.rules_tables.specs.Frame.{Table}
use Rattle.rules_tables.specs.Judge.{frame, judge, shape_of}
use Rattle.rules_store.specs.Word.{Store, now_of}
use Rattle.rules_calls.specs.Run.{after, bytes, untrue_in}
use Rattle.rules_calls.specs.Answer.{moves_of, stop_of, bytes_of, untrue_of, answer_by, Answer}
use Rattle.rules_calls.specs.Refusals.{load_refusal, store_refusal}
use Rattle.rules_calls.specs.Public.{number_by, count_by, Tells}
use Rattle.rules_calls.specs.Exports.{packed}
use Rattle.rules_calls.specs.declared.Outcome.TheVariants.{Done, Ran}
use Rattle.rules_traces.specs.declared.Traced.{Traced}
use Rattle.rules_traces.specs.declared.Shown.{Shown}
use Rattle.rules_traces.specs.Run.{trace, traced_made, traced_stop}
use Rattle.rules_traces.specs.Reader.{shown_of, ended_by, shown_after}

-- ---- a traced run into the output `out` and the trace `tr`
-- how many moves it makes with so much room for output and so much space for its trace
abbrev pub traced_moves : Table → Store → (budget room space : ℕ) → ℕ
traced_moves T s budget room space = traced_made T (shape_of T) (now_of s) budget room space s

abbrev pub traced_ran : Table → Store → (room space m : ℕ) → Answer
traced_ran T s room space m =
    Ok (Ran m (length (bytes T (shape_of T) (now_of s) m s)) (traced_stop T (shape_of T) (now_of s) room space s m) (untrue_in T (shape_of T) (now_of s) m s))

abbrev pub traced_answer : Table → Store → (budget : ℕ) → (out tr : List ℕ) → Answer
traced_answer T s budget out tr =
    answer_by (judge T) (store_refusal T (shape_of T) s) (traced_ran T s (length out) (length tr) (traced_moves T s budget (length out) (length tr)))

-- store, output and trace are those of the moves that it tells; a refused run tells none
pub record TracedCall (T : Table) (s : Store) (budget : ℕ) (out tr : List ℕ) (r : Traced) (s' : Store) (out' tr' : List ℕ) : Type 0 where
  pub answer : r.answer ≡ traced_answer T s budget out tr
  pub tells :
      Tells r.answer (number_by (judge T) (store_refusal T (shape_of T) s)) (frame (judge T))
      (count_by (judge T) (store_refusal T (shape_of T) s) (traced_moves T s budget (length out) (length tr)))
      (length (bytes T (shape_of T) (now_of s) (moves_of r.answer) s))
      (count_by (judge T) (store_refusal T (shape_of T) s) (traced_stop T (shape_of T) (now_of s) (length out) (length tr) s (moves_of r.answer)))
      (untrue_in T (shape_of T) (now_of s) (moves_of r.answer) s)
  pub traced : r.traced ≡ length (trace T (shape_of T) (now_of s) (moves_of r.answer) s)
  pub store : s' ≡ after T (shape_of T) (now_of s) (moves_of r.answer) s
  pub output : out' ≡ sets out 0 (bytes T (shape_of T) (now_of s) (moves_of r.answer) s)
  pub trace_is : tr' ≡ sets tr 0 (trace T (shape_of T) (now_of s) (moves_of r.answer) s)

-- ---- the reader, by at most so many frames: refused by 1 to 5, since it reads no word of the store
abbrev pub show_answer : Table → Store → Answer
show_answer T s = answer_by (judge T) (load_refusal (shape_of T) s) (Ok Done)

-- how many frames it reads, and the line that ends the reading; 0 and 0 where it is refused
abbrev pub show_count : Table → Store → (text : List ℕ) (frames : ℕ) → ℕ
show_count T s text frames = count_by (judge T) (load_refusal (shape_of T) s) (shown_of T (shape_of T) text frames)

pub record ShowCall (T : Table) (s : Store) (text : List ℕ) (frames : ℕ) (r : Shown) (s' : Store) : Type 0 where
  pub answer : r.answer ≡ show_answer T s
  pub tells : Tells r.answer (number_by (judge T) (load_refusal (shape_of T) s)) (frame (judge T)) 0 0 0 0
  pub shown : r.shown ≡ show_count T s text frames
  pub line : r.line ≡ count_by (judge T) (load_refusal (shape_of T) s) (ended_by text frames r.shown)
  pub store : s' ≡ shown_after (shape_of T) text r.shown s

-- ---- the same for hosts in C: refusal number and frame as one number, the counts through pointers
pub record TracedTold (T : Table) (s : Store) (budget : ℕ) (out tr : List ℕ) (r moves stop bytes traced untrue : ℕ) (s' : Store) (out' tr' : List ℕ) : Type 0 where
  pub answer : Traced
  pub call : TracedCall T s budget out tr answer s' out' tr'
  pub number : r ≡ packed answer.answer
  pub moves_made : moves ≡ moves_of answer.answer
  pub stopped : stop ≡ stop_of answer.answer
  pub bytes_written : bytes ≡ bytes_of answer.answer
  pub trace_written : traced ≡ answer.traced
  pub untrue_made : untrue ≡ untrue_of answer.answer

pub record ShowTold (T : Table) (s : Store) (text : List ℕ) (frames r shown line : ℕ) (s' : Store) : Type 0 where
  pub answer : Shown
  pub call : ShowCall T s text frames answer s'
  pub number : r ≡ packed answer.answer
  pub frames_read : shown ≡ answer.shown
  pub ended_by : line ≡ answer.line
