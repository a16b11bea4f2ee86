-- An answer tells document 01's numbers, and what a run leaves is what the moves that it tells leave: so each call's statement follows from its answer, its
-- store and its output.
use Rattle.std.specs.Prelude.{◌≡◌, List, Bool, ℕ, eqb, Ok, Err}
use Rattle.std.proofs.Math.Path.{refl}
use Rattle.std.proofs.Common.{sym, ap, ◌∙◌, eqb-true}
use Rattle.std.proofs.Math.Bool.{true, false}
use Rattle.std.proofs.Math.ListN.{length}
use Rattle.std.proofs.Math.Seq.{sets}
use Rattle.rules_walks.specs.Pick.{pick}
use Rattle.rules_walks.specs.Choose.{choose}
use Rattle.rules_tables.specs.declared.Shape.{Shape}
use Rattle.rules_tables.specs.Judge.{Verdict, accepted, refused, frame, judge, shape_of, refusal}
use Rattle.rules_store.specs.Word.{now_of}
use Rattle.rules_calls.specs.Run.{after, bytes, untrue_in, stop_after}
use Rattle.rules_calls.specs.Answer.{number_of, frame_of, moves_of, bytes_of, stop_of, untrue_of, answer_by, kept_by, Answer}
use Rattle.rules_calls.specs.Refusals.{load_refusal, store_refusal, advance_refusal, arrival_refusal}
use Rattle.rules_calls.specs.Public.{run_moves, run_answer, load_answer, load_store, advance_answer, advance_store, arrival_answer, arrival_store, run_answered, run_store, run_output, number_by, count_by, Tells, LoadCall, AdvanceCall, ArrivalCall, RunCall}
use Rattle.rules_calls.specs.declared.Outcome.TheVariants.{Done}

-- what is answered for a verdict v and a refusal q of the call, where a call that is done tells no number and no frame
module _ (v : Verdict) (q : ℕ) where
  answer_tells : (d : Answer) → number_of d ≡ 0 → frame_of d ≡ 0
      → Tells (answer_by v q d) (number_by v q) (frame v) (count_by v q (moves_of d)) (count_by v q (bytes_of d)) (count_by v q (stop_of d)) (count_by v q (untrue_of d))
  answer_tells d n f = by v
    where
      by : (w : Verdict) → Tells (answer_by w q d) (number_by w q) (frame w) (count_by w q (moves_of d)) (count_by w q (bytes_of d)) (count_by w q (stop_of d)) (count_by w q (untrue_of d))
      by (refused p g) = record { number_is = refl; frame_is = refl; moves_are = refl; bytes_are = refl; stop_is = refl; untrue_are = refl }
      by accepted = at (eqb q 0) refl
        where
          at : (b : Bool) → eqb q 0 ≡ b → Tells (pick b d (Err (refusal q 0))) q 0 (pick b (moves_of d) 0) (pick b (bytes_of d) 0) (pick b (stop_of d) 0) (pick b (untrue_of d) 0)
          at true e = record { number_is = n ∙ sym (eqb-true q 0 e); frame_is = f; moves_are = refl; bytes_are = refl; stop_is = refl; untrue_are = refl }
          at false e = record { number_is = refl; frame_is = refl; moves_are = refl; bytes_are = refl; stop_is = refl; untrue_are = refl }

  -- a call without counts
  pub done_tells : (r : Answer) → r ≡ answer_by v q (Ok Done) → Tells r (number_by v q) (frame v) 0 0 0 0
  done_tells r e = rw e (by v)
    where
      by : (w : Verdict) → Tells (answer_by w q (Ok Done)) (number_by w q) (frame w) 0 0 0 0
      by (refused p g) = record { number_is = refl; frame_is = refl; moves_are = refl; bytes_are = refl; stop_is = refl; untrue_are = refl }
      by accepted = at (eqb q 0) refl
        where
          at : (b : Bool) → eqb q 0 ≡ b → Tells (pick b (Ok Done) (Err (refusal q 0))) q 0 0 0 0 0
          at true e = record { number_is = sym (eqb-true q 0 e); frame_is = refl; moves_are = refl; bytes_are = refl; stop_is = refl; untrue_are = refl }
          at false e = record { number_is = refl; frame_is = refl; moves_are = refl; bytes_are = refl; stop_is = refl; untrue_are = refl }

  -- no moves leave the store, and write nothing
  module _ (T : List ℕ) (S : Shape) (t m : ℕ) (s : List ℕ) where
    kept_after : kept_by v q s (after T S t m s) ≡ after T S t (count_by v q m) s
    unfolding after choose
    kept_after = by v
      where
        by : (w : Verdict) → kept_by w q s (after T S t m s) ≡ after T S t (count_by w q m) s
        by (refused p g) = refl
        by accepted = at (eqb q 0)
          where
            at : (b : Bool) → choose b (after T S t m s) s ≡ after T S t (pick b m 0) s
            at true = refl
            at false = refl

    kept_bytes : (out : List ℕ) → kept_by v q out (sets out 0 (bytes T S t m s)) ≡ sets out 0 (bytes T S t (count_by v q m) s)
    unfolding bytes choose
    kept_bytes out = by v
      where
        by : (w : Verdict) → kept_by w q out (sets out 0 (bytes T S t m s)) ≡ sets out 0 (bytes T S t (count_by w q m) s)
        by (refused p g) = refl
        by accepted = at (eqb q 0)
          where
            at : (b : Bool) → choose b (sets out 0 (bytes T S t m s)) out ≡ sets out 0 (bytes T S t (pick b m 0) s)
            at true = refl
            at false = refl

    count_bytes : count_by v q (length (bytes T S t m s)) ≡ length (bytes T S t (count_by v q m) s)
    unfolding bytes
    count_bytes = by v
      where
        by : (w : Verdict) → count_by w q (length (bytes T S t m s)) ≡ length (bytes T S t (count_by w q m) s)
        by (refused p g) = refl
        by accepted = at (eqb q 0)
          where
            at : (b : Bool) → pick b (length (bytes T S t m s)) 0 ≡ length (bytes T S t (pick b m 0) s)
            at true = refl
            at false = refl

    count_untrue : count_by v q (untrue_in T S t m s) ≡ untrue_in T S t (count_by v q m) s
    unfolding untrue_in
    count_untrue = by v
      where
        by : (w : Verdict) → count_by w q (untrue_in T S t m s) ≡ untrue_in T S t (count_by w q m) s
        by (refused p g) = refl
        by accepted = at (eqb q 0)
          where
            at : (b : Bool) → pick b (untrue_in T S t m s) 0 ≡ untrue_in T S t (pick b m 0) s
            at true = refl
            at false = refl

    count_stop : (room : ℕ) → count_by v q (stop_after T S t room s m) ≡ count_by v q (stop_after T S t room s (count_by v q m))
    count_stop room = by v
      where
        by : (w : Verdict) → count_by w q (stop_after T S t room s m) ≡ count_by w q (stop_after T S t room s (count_by w q m))
        by (refused p g) = refl
        by accepted = at (eqb q 0)
          where
            at : (b : Bool) → pick b (stop_after T S t room s m) 0 ≡ pick b (stop_after T S t room s (pick b m 0)) 0
            at true = refl
            at false = refl

-- ---- each call
module _ (T s : List ℕ) {r : Answer} {s' : List ℕ} where
  pub load_call : r ≡ load_answer T s → s' ≡ load_store T s → LoadCall T s r s'
  load_call a e = record { answer = a; tells = done_tells (judge T) (load_refusal (shape_of T) s) r a; store = e }

  pub advance_call : (t : ℕ) → r ≡ advance_answer T s t → s' ≡ advance_store T s t → AdvanceCall T s t r s'
  advance_call t a e = record { answer = a; tells = done_tells (judge T) (advance_refusal T (shape_of T) s t) r a; store = e }

  pub arrival_call : (o birth : ℕ) (values : List ℕ) → r ≡ arrival_answer T s o birth values → s' ≡ arrival_store T s o birth values → ArrivalCall T s o birth values r s'
  arrival_call o birth values a e = record { answer = a; tells = done_tells (judge T) (arrival_refusal T (shape_of T) s o birth values) r a; store = e }

module _ (T s : List ℕ) (budget : ℕ) (out : List ℕ) where
  abbrev v : Verdict
  v = judge T

  abbrev q : ℕ
  q = store_refusal T (shape_of T) s

  abbrev m : ℕ
  m = run_moves T s budget (length out)

  module _ {r : Answer} where
    told : (r ≡ run_answered T s budget out)
        → Tells r (number_by v q) (frame v) (count_by v q m) (count_by v q (length (bytes T (shape_of T) (now_of s) m s)))
        (count_by v q (stop_after T (shape_of T) (now_of s) (length out) s m)) (count_by v q (untrue_in T (shape_of T) (now_of s) m s))
    told a = rw a (answer_tells v q (run_answer T s budget (length out) m) refl refl)

    pub run_call : {s' out' : List ℕ} → r ≡ run_answered T s budget out → s' ≡ run_store T s budget out → out' ≡ run_output T s budget out → RunCall T s budget out r s' out'
    run_call a e o =
        let w = told a in
        let n : count_by v q m ≡ moves_of r = sym w.moves_are in
        record {
          answer = a;
          tells =
              record {
                number_is = w.number_is;
                frame_is = w.frame_is;
                moves_are = w.moves_are;
                bytes_are = w.bytes_are ∙ count_bytes v q T (shape_of T) (now_of s) m s ∙ ap (λ (k : ℕ). length (bytes T (shape_of T) (now_of s) k s)) n;
                stop_is = w.stop_is ∙ count_stop v q T (shape_of T) (now_of s) m s (length out) ∙ ap (λ (k : ℕ). count_by v q (stop_after T (shape_of T) (now_of s) (length out) s k)) n;
                untrue_are = w.untrue_are ∙ count_untrue v q T (shape_of T) (now_of s) m s ∙ ap (λ (k : ℕ). untrue_in T (shape_of T) (now_of s) k s) n;
              };
          store = e ∙ kept_after v q T (shape_of T) (now_of s) m s ∙ ap (λ (k : ℕ). after T (shape_of T) (now_of s) k s) n;
          output = o ∙ kept_bytes v q T (shape_of T) (now_of s) m s out ∙ ap (λ (k : ℕ). sets out 0 (bytes T (shape_of T) (now_of s) k s)) n;
        }

    -- and back: by the refusals
    pub run_store_lem : {s' out' : List ℕ} → RunCall T s budget out r s' out' → s' ≡ run_store T s budget out
    run_store_lem c = c.store ∙ ap (λ (k : ℕ). after T (shape_of T) (now_of s) k s) c.tells.moves_are ∙ sym (kept_after v q T (shape_of T) (now_of s) m s)

    pub run_output_lem : {s' out' : List ℕ} → RunCall T s budget out r s' out' → out' ≡ run_output T s budget out
    run_output_lem c =
        c.output ∙ ap (λ (k : ℕ). sets out 0 (bytes T (shape_of T) (now_of s) k s)) c.tells.moves_are ∙ sym (kept_bytes v q T (shape_of T) (now_of s) m s out)
