-- A call that nothing refuses, as a step of a sequence: the store is what the rule says, and the log too.
use Rattle.std.specs.Prelude.{◌≡◌, refl, List, ℕ, eqb, length, Ok}
use Rattle.std.proofs.Common.{subst, eq-eqb}
use Rattle.rules_walks.proofs.laws.Choose.{choose_true}
use Rattle.rules_tables.specs.Judge.{Verdict, accepted, judge, shape_of}
use Rattle.rules_store.specs.Word.{now_of}
use Rattle.rules_store.specs.Load.{loaded}
use Rattle.rules_calls.specs.Run.{after}
use Rattle.rules_calls.specs.Calls.{advanced, arrived}
use Rattle.rules_calls.specs.Answer.{answer_by, kept_by}
use Rattle.rules_calls.specs.Refusals.{load_refusal, store_refusal, advance_refusal, arrival_refusal}
use Rattle.rules_calls.specs.Public.{run_moves, advance_answer, arrival_answer, run_answered, run_output}
use Rattle.rules_calls.proofs.laws.Public.{load_call, advance_call, arrival_call, run_call}
use Rattle.rules_calls.specs.declared.Outcome.TheVariants.{Done}
use Rattle.rules_log.specs.Log.{Log, empty, run_log, advance_log, arrival_log}
use Rattle.rules_log.specs.Sequence.{unless, Since, loads, advances, arrives, runs}

-- nothing refuses
module _ (v : Verdict) (q : ℕ) (e : v ≡ accepted) (z : q ≡ 0) where
  answered : Ok Done ≡ answer_by v q (Ok Done)
  answered = rw (e, z)

  left : (s x : List ℕ) → x ≡ kept_by v q s x
  left s x = rw (e, choose_true (eqb q 0) x s (eq-eqb q 0 z))

happened : (q : ℕ) (l' l : Log) → q ≡ 0 → unless q l' l ≡ l'
happened q l' l z = choose_true (eqb q 0) l' l (eq-eqb q 0 z)

module _ (T : List ℕ) (v : judge T ≡ accepted) where
  pub loaded_since : (s : List ℕ) → load_refusal (shape_of T) s ≡ 0 → Since T (loaded T (shape_of T) s) empty
  loaded_since s z =
      let q = load_refusal (shape_of T) s in
      loads s (loaded T (shape_of T) s) (load_call T s (answered (judge T) q v z) (left (judge T) q v z s (loaded T (shape_of T) s)))

  module _ (s : List ℕ) (l : Log) (w : Since T s l) where
    pub advanced_since : (t : ℕ) → advance_refusal T (shape_of T) s t ≡ 0 → Since T (advanced T (shape_of T) t s) (advance_log T (shape_of T) t s l)
    advanced_since t z =
        let q = advance_refusal T (shape_of T) s t in
        let x = advanced T (shape_of T) t s in
        subst (λ (m : Log). Since T x m) (happened q (advance_log T (shape_of T) t s l) l z)
        (advances s x l t (advance_answer T s t) w (advance_call T s t refl (left (judge T) q v z s x)))

    pub arrived_since : (o birth : ℕ) (values : List ℕ) → arrival_refusal T (shape_of T) s o birth values ≡ 0 → Since T (arrived T (shape_of T) o birth values s) (arrival_log T (shape_of T) o birth values s l)
    arrived_since o birth values z =
        let q = arrival_refusal T (shape_of T) s o birth values in
        let x = arrived T (shape_of T) o birth values s in
        subst (λ (m : Log). Since T x m) (happened q (arrival_log T (shape_of T) o birth values s l) l z)
        (arrives s x l o birth values (arrival_answer T s o birth values) w (arrival_call T s o birth values refl (left (judge T) q v z s x)))

    -- a run of this budget makes n moves
    pub ran_since : (budget : ℕ) (out : List ℕ) (t n : ℕ) → store_refusal T (shape_of T) s ≡ 0 → now_of s ≡ t → run_moves T s budget (length out) ≡ n
        → Since T (after T (shape_of T) t n s) (run_log T (shape_of T) t n s l)
    ran_since budget out t n z e c =
        let q = store_refusal T (shape_of T) s in
        let m = run_moves T s budget (length out) in
        let x = after T (shape_of T) (now_of s) m s in
        let y =
        subst (λ (k : Log). Since T x k) (happened q (run_log T (shape_of T) (now_of s) m s l) l z)
        (runs s x out (run_output T s budget out) l budget (run_answered T s budget out) w (run_call T s budget out refl (left (judge T) q v z s x) refl)) in
        rw (c, e) at y
