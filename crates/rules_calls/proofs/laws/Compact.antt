-- A refusal has a number up to 11, and the frame named is one of at most 4,096: so the two fit one number.
use Rattle.std.specs.Prelude.{◌≡◌, List, Bool, true, false, eqb, ltb, length, Ok, Err}
use Rattle.std.proofs.Math.Path.{refl}
use Prim.Native.Nat.{ℕ, zero, suc, ◌≤◌}
use native.Mathlib.Omega.{arith}
use Rattle.rules_walks.specs.Pick.{pick}
use Rattle.rules_walks.proofs.laws.Pick.{by_test}
use Rattle.rules_tables.specs.Frame.{frames_of}
use Rattle.rules_tables.specs.Form.{form_ok}
use Rattle.rules_tables.specs.Reference.{refers_ok}
use Rattle.rules_tables.specs.Network.{rules_ok}
use Rattle.rules_tables.specs.declared.Shape.{Shape}
use Rattle.rules_tables.specs.Judge.{Verdict, accepted, refused, next, number, frame, fault_at, scan_to, length_ok, judge, answer, judged, shape_of, refusal}
use Rattle.rules_tables.proofs.laws.Judge.{length_few}
use Rattle.rules_store.specs.Layout.{need}
use Rattle.rules_store.specs.Word.{now_of}
use Rattle.rules_store.specs.WellFormed.{well_formed}
use Rattle.rules_calls.specs.Calls.{wrong_time, beyond_due, of_source, value_count}
use Rattle.rules_calls.specs.Answer.{number_of, frame_of, answer_by, refused_of, Answer}
use Rattle.rules_calls.specs.Refusals.{or_else, load_refusal, store_refusal, time_refusal, advance_refusal, event_refusal, arrival_refusal}
use Rattle.rules_calls.specs.Public.{run_moves, run_answer, LoadCall, AdvanceCall, ArrivalCall, RunCall}
use Rattle.rules_calls.specs.Compact.{Compact}
use Rattle.rules_calls.specs.declared.Outcome.TheVariants.{Done}

-- what `fault_at` picks from
picked : (a b c : Bool) → pick a (pick b (pick c 0 4) 3) 2 ≤ 4
picked true true true = omega arith
picked true true false = omega arith
picked true false c = omega arith
picked false b c = omega arith

-- a verdict on n frames names one of them
record Few (v : Verdict) (n : ℕ) : Type 0 where
  pub low : number v ≤ 4
  pub inside : frame v ≤ n

next_few : (v : Verdict) (q n : ℕ) → q ≤ 4 → Few v n → Few (next v q n) (suc n)
next_few (refused p g) q n l h = record { low = h.low; inside = omega (arith, h.inside) }
next_few accepted zero n l h = record { low = omega arith; inside = omega arith }
next_few accepted (suc q) n l h = record { low = l; inside = omega arith }

module _ (T : List ℕ) where
  fault_few : (f : ℕ) → fault_at T f ≤ 4
  unfolding fault_at
  fault_few f = picked (form_ok T f) (refers_ok T f) (rules_ok T f)

  scan_few : (n : ℕ) → Few (scan_to T n) n
  unfolding scan_to
  scan_few zero = record { low = omega arith; inside = omega arith }
  scan_few (suc n) = next_few (scan_to T n) (fault_at T n) n (fault_few n) (scan_few n)

  judge_few : Few (judge T) 4096
  unfolding judge
  judge_few =
      by_test (λ v. Few v 4096) (length_ok T) (scan_to T (frames_of T)) (refused 1 0)
      (λ e. let l = length_few T e in
      let h = scan_few (frames_of T) in
      record { low = h.low; inside = omega (arith, h.inside, l) }) (λ _. record { low = omega arith; inside = omega arith })

-- ---- the refusals past 4
load_few : (S : Shape) (s : List ℕ) → load_refusal S s ≤ 11
unfolding load_refusal
load_few S s = by_test (λ (q : ℕ). q ≤ 11) (ltb (length s) (need S)) 5 0 (λ _. omega arith) (λ _. omega arith)

store_few : (T : List ℕ) (S : Shape) (s : List ℕ) → store_refusal T S s ≤ 11
unfolding store_refusal
store_few T S s = by (ltb (length s) (need S)) (well_formed T S s)
  where
    by : (a b : Bool) → pick a 5 (pick b 0 6) ≤ 11
    by true b = omega arith
    by false true = omega arith
    by false false = omega arith

time_few : (S : Shape) (s : List ℕ) (t : ℕ) → time_refusal S s t ≤ 11
unfolding time_refusal
time_few S s t = by (wrong_time s t) (beyond_due S s t)
  where
    by : (a b : Bool) → pick a 7 (pick b 8 0) ≤ 11
    by true b = omega arith
    by false true = omega arith
    by false false = omega arith

event_few : (T : List ℕ) (S : Shape) (s : List ℕ) (o birth : ℕ) (vs : List ℕ) → event_refusal T S s o birth vs ≤ 11
unfolding event_refusal
event_few T S s o birth vs = by (of_source T S o) (ltb (now_of s) birth) (eqb (length vs) (value_count T S o))
  where
    by : (a b c : Bool) → pick a (pick b 10 (pick c 0 11)) 9 ≤ 11
    by true true c = omega arith
    by true false true = omega arith
    by true false false = omega arith
    by false b c = omega arith

either_few : (q p : ℕ) → q ≤ 11 → p ≤ 11 → or_else q p ≤ 11
either_few q p l h = by_test (λ (x : ℕ). x ≤ 11) (eqb q 0) p q (λ _. h) (λ _. l)

module _ (T : List ℕ) where
  pub check_compact : Compact (refused_of (judged T))
  check_compact = by (judge T) (judge_few T)
    where
      by : (v : Verdict) → Few v 4096 → Compact (refused_of (answer v (shape_of T)))
      by accepted h = record { low = omega arith; inside = omega arith }
      by (refused q f) h = record { low = omega (arith, h.low); inside = h.inside }

  -- what a call answers that refuses by q, or else tells no number and no frame
  told_compact : (q : ℕ) (done : Answer) → q ≤ 11 → number_of done ≡ 0 → frame_of done ≡ 0 → Compact (answer_by (judge T) q done)
  told_compact q done l n g = by (judge T) (judge_few T)
    where
      by : (v : Verdict) → Few v 4096 → Compact (answer_by v q done)
      by accepted h =
          by_test Compact (eqb q 0) done (Err (refusal q 0)) (λ _. record { low = omega (arith, n); inside = omega (arith, g) })
          (λ _. record { low = l; inside = omega arith })
      by (refused p f) h = record { low = omega (arith, h.low); inside = h.inside }

  module _ (s : List ℕ) {a : Answer} {s' : List ℕ} where
    pub load_compact : LoadCall T s a s' → Compact a
    load_compact c = rw c.answer (told_compact (load_refusal (shape_of T) s) (Ok Done) (load_few (shape_of T) s) refl refl)

    pub advance_compact : (t : ℕ) → AdvanceCall T s t a s' → Compact a
    unfolding advance_refusal
    advance_compact t c =
        rw c.answer
        (told_compact (advance_refusal T (shape_of T) s t) (Ok Done)
        (either_few (store_refusal T (shape_of T) s) (time_refusal (shape_of T) s t) (store_few T (shape_of T) s) (time_few (shape_of T) s t)) refl refl)

    pub arrival_compact : (o birth : ℕ) (vs : List ℕ) → ArrivalCall T s o birth vs a s' → Compact a
    unfolding arrival_refusal
    arrival_compact o birth vs c =
        rw c.answer
        (told_compact (arrival_refusal T (shape_of T) s o birth vs) (Ok Done)
        (either_few (store_refusal T (shape_of T) s) (event_refusal T (shape_of T) s o birth vs) (store_few T (shape_of T) s)
        (event_few T (shape_of T) s o birth vs)) refl refl)

    pub run_compact : (budget : ℕ) (out out' : List ℕ) → RunCall T s budget out a s' out' → Compact a
    run_compact budget out out' c =
        rw c.answer
        (told_compact (store_refusal T (shape_of T) s) (run_answer T s budget (length out) (run_moves T s budget (length out))) (store_few T (shape_of T) s) refl refl)
