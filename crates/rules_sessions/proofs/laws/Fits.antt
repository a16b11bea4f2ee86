-- What a call answers fits its line, and what a run prints is one line for each move that writes a record, then its answer.
use Rattle.std.specs.Prelude.{◌≡◌, List, ◌++◌, ℕ, ◌≤◌, ◌<◌, eqb, length, take, Ok, Err}
use Rattle.std.proofs.Math.Path.{refl}
use Rattle.std.proofs.Common.{ap, ◌∙◌, arith}
use Rattle.std.proofs.lemmas.List.Edits.{sets}
use Rattle.rules_walks.proofs.laws.Pick.{by_test}
use Rattle.rules_walks.specs.Choose.{choose}
use Rattle.rules_numbers.proofs.laws.Sets.{part_sets}
use Rattle.rules_tables.specs.declared.Shape.{Shape}
use Rattle.rules_tables.specs.Judge.{Verdict, accepted, refused, judge, answer, shape_of, refusal}
use Rattle.rules_store.specs.Word.{now_of}
use Rattle.rules_calls.specs.Run.{bytes, another, room_for, stop_after}
use Rattle.rules_calls.specs.Answer.{moves_of, stop_of, bytes_of, answer_by, kept_by, Answer}
use Rattle.rules_calls.specs.Refusals.{load_refusal, store_refusal, advance_refusal, arrival_refusal}
use Rattle.rules_calls.specs.Public.{run_moves, run_answer, load_answer, load_store, advance_answer, advance_store, arrival_answer, arrival_store, run_answered, run_store, run_output}
use Rattle.rules_calls.proofs.laws.Public.{load_call, advance_call, arrival_call, run_call}
use Rattle.rules_calls.specs.Compact.{Compact}
use Rattle.rules_calls.proofs.laws.Compact.{load_compact, advance_compact, arrival_compact, run_compact}
use Rattle.rules_moves.specs.Record.{record_size}
use Rattle.rules_sessions.specs.AnswerLine.{answer_line}
use Rattle.rules_sessions.specs.RecordLines.{records_by, record_lines}
use Rattle.rules_sessions.specs.RunLines.{run_lines}
use Rattle.rules_sessions.proofs.laws.RunLines.{split_run}
use Rattle.rules_sessions.specs.RunText.{run_text}
use Rattle.rules_sessions.specs.Fits.{Fits}
use Rattle.rules_calls.proofs.laws.Run.{moves_fit, bytes_fit}
use Rattle.rules_calls.specs.declared.Outcome.TheVariants.{Done}

-- ---- the bytes of a run fit its output
module _ (T : List ℕ) (S : Shape) (time room : ℕ) (s : List ℕ) where
  stop_few : (n : ℕ) → stop_after T S time room s n ≤ 3
  unfolding stop_after
  stop_few n =
      by_test (λ (k : ℕ). k ≤ 3) (another T S time s n) _ 1 (λ _. by_test (λ (k : ℕ). k ≤ 3) (room_for T S time room s n) 2 3 (λ _. omega arith) (λ _. omega arith)) (λ _. omega arith)

-- ---- what a call answers: number and frame are small (`Compact`), and the counts are those of a call that is done, or none
record Counts (a : Answer) : Type 0 where
  pub moves_low : moves_of a < 4294967296
  pub stop_low : stop_of a < 65536
  pub bytes_low : bytes_of a < 65536

none_counted : (q f : ℕ) → Counts (Err (refusal q f))
none_counted q f = record { moves_low = omega arith; stop_low = omega arith; bytes_low = omega arith }

done_counted : Counts (Ok Done)
done_counted = record { moves_low = omega arith; stop_low = omega arith; bytes_low = omega arith }

counts_fit : (v : Verdict) (q : ℕ) (done : Answer) → Counts done → Counts (answer_by v q done)
counts_fit accepted q done w = by_test Counts (eqb q 0) done (Err (refusal q 0)) (λ _. w) (λ _. none_counted q 0)
counts_fit (refused p f) q done w = none_counted p f

compact_fits : (a : Answer) → Compact a → Counts a → Fits a
compact_fits a c w =
    record { number = omega (arith, c.low); frame = omega (arith, c.inside); moves_few = w.moves_low; stop = w.stop_low; bytes_few = w.bytes_low }

module _ (T s : List ℕ) where
  pub load_fits : Fits (load_answer T s)
  load_fits =
      compact_fits (load_answer T s) (load_compact T s {a = load_answer T s} {s' = load_store T s} (load_call T s refl refl))
      (counts_fit (judge T) (load_refusal (shape_of T) s) (Ok Done) done_counted)

  pub advance_fits : (t : ℕ) → Fits (advance_answer T s t)
  advance_fits t =
      compact_fits (advance_answer T s t) (advance_compact T s {a = advance_answer T s t} {s' = advance_store T s t} t (advance_call T s t refl refl))
      (counts_fit (judge T) (advance_refusal T (shape_of T) s t) (Ok Done) done_counted)

  pub arrival_fits : (o birth : ℕ) (vs : List ℕ) → Fits (arrival_answer T s o birth vs)
  arrival_fits o birth vs =
      compact_fits (arrival_answer T s o birth vs)
      (arrival_compact T s {a = arrival_answer T s o birth vs} {s' = arrival_store T s o birth vs} o birth vs (arrival_call T s o birth vs refl refl))
      (counts_fit (judge T) (arrival_refusal T (shape_of T) s o birth vs) (Ok Done) done_counted)

  pub run_fits : (b : ℕ) (out : List ℕ) → b < 4294967296 → length out < 65536 → Fits (run_answered T s b out)
  run_fits b out k l =
      let m = moves_fit T s b (length out) in
      let g = bytes_fit T (shape_of T) (now_of s) (length out) s b in
      let h = stop_few T (shape_of T) (now_of s) (length out) s (run_moves T s b (length out)) in
      compact_fits (run_answered T s b out)
      (run_compact T s {a = run_answered T s b out} {s' = run_store T s b out} b out (run_output T s b out) (run_call T s b out refl refl refl))
      (counts_fit (judge T) (store_refusal T (shape_of T) s) (run_answer T s b (length out) (run_moves T s b (length out)))
      (record { moves_low = omega arith; stop_low = omega arith; bytes_low = omega arith }))

-- ---- what a run prints that nothing refuses
module _ (T s : List ℕ) (b : ℕ) (out : List ℕ) (sound : judge T ≡ accepted) (ready : store_refusal T (shape_of T) s ≡ 0) where
  abbrev m : ℕ
  m = run_moves T s b (length out)

  abbrev B : List ℕ
  B = bytes T (shape_of T) (now_of s) m s

  abbrev A : Answer
  A = run_answer T s b (length out) m

  said_by : (v : Verdict) (q : ℕ) → v ≡ accepted → q ≡ 0
      → records_by (answer v (shape_of T)) T (take (bytes_of (answer_by v q A)) (kept_by v q out (sets out 0 B))) ++ answer_line (answer_by v q A)
      ≡ record_lines (record_size T (shape_of T)) (take (length B) (sets out 0 B)) 0 (length (take (length B) (sets out 0 B))) ++ answer_line A
  unfolding choose
  said_by v q e z = rw (e, z) refl

  whole_part : take (length B) (sets out 0 B) ≡ B
  whole_part = let h = bytes_fit T (shape_of T) (now_of s) (length out) s b in part_sets out 0 B (omega arith)

  -- a line for each move that writes a record, in the order of the moves, then the answer
  pub run_said : run_text T s b out ≡ run_lines T (shape_of T) (now_of s) m s ++ answer_line A
  run_said =
      said_by (judge T) (store_refusal T (shape_of T) s) sound ready
      ∙ ap (λ (X : List ℕ). record_lines (record_size T (shape_of T)) X 0 (length X) ++ answer_line A) whole_part
      ∙ ap (λ (X : List ℕ). X ++ answer_line A) (split_run T (shape_of T) (now_of s) m s)
