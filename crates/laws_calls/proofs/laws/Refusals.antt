-- What it means that nothing refuses a call.
use Rattle.std.specs.Prelude.{◌≡◌, refl, List, Bool, true, false, ◌⊎◌, ℕ, ◌≤◌, eqb, ltb, length, Ok, Err}
use Rattle.std.proofs.Common.{inl, inr, arith, eqb-true, ltb-false}
use Rattle.std.proofs.lemmas.Bool.{eqb-false}
use Rattle.rules_walks.specs.Pick.{pick}
use Rattle.rules_tables.specs.declared.Shape.{Shape}
use Rattle.rules_tables.specs.Judge.{Verdict, accepted, refused, refusal}
use Rattle.rules_store.specs.Layout.{need}
use Rattle.rules_store.specs.Word.{now_of}
use Rattle.rules_store.specs.WellFormed.{well_formed}
use Rattle.rules_calls.specs.Calls.{wrong_time, beyond_due, of_source, value_count}
use Rattle.rules_calls.specs.Answer.{answer_by, Answer}
use Rattle.rules_calls.specs.Public.{count_by}
use Rattle.rules_calls.specs.Refusals.{load_refusal, store_refusal, or_else, time_refusal, event_refusal}
use Rattle.rules_calls.specs.declared.Outcome.TheVariants.{Done, Ran}
use Rattle.rules_store.specs.Formed.{Formed}
use Rattle.rules_store.proofs.laws.WellFormed.{formed_means}
use Rattle.laws_calls.specs.Refusals.{Accepting, Running}

pub done_means : (v : Verdict) (q : ℕ) → Ok Done ≡ answer_by v q (Ok Done) → Accepting v q
done_means accepted q e = by (eqb q 0) refl e
  where
    by : (b : Bool) → eqb q 0 ≡ b → Ok Done ≡ pick b (Ok Done) (Err (refusal q 0)) → Accepting accepted q
    by true z d = record { table = refl; call = eqb-true q 0 z }
    by false z d = absurd (let y : ◌≡◌ {A = ℕ} 0 1 = cc in omega arith)
done_means (refused p f) q e = absurd (let y : ◌≡◌ {A = ℕ} 0 1 = cc in omega arith)

pub ran_means : (v : Verdict) (q m b n u : ℕ) (d : Answer) → Ok (Ran m b n u) ≡ answer_by v q d → Running v q (Ok (Ran m b n u)) d
ran_means accepted q m b n u d e = by (eqb q 0) refl e
  where
    by : (c : Bool) → eqb q 0 ≡ c → Ok (Ran m b n u) ≡ pick c d (Err (refusal q 0)) → Running accepted q (Ok (Ran m b n u)) d
    by true z x = record { table = refl; call = eqb-true q 0 z; is = x }
    by false z x = absurd (let y : ◌≡◌ {A = ℕ} 0 1 = cc in omega arith)
ran_means (refused p f) q m b n u d e = absurd (let y : ◌≡◌ {A = ℕ} 0 1 = cc in omega arith)

-- a count of a call: what it would be, where nothing refuses the call, or 0
pub count_cases : (v : Verdict) (q n : ℕ) → ((v ≡ accepted) × (q ≡ 0) × (count_by v q n ≡ n)) ⊎ (count_by v q n ≡ 0)
count_cases (refused p f) q n = inr refl
count_cases accepted q n = by (eqb q 0) refl
  where
    by : (b : Bool) → eqb q 0 ≡ b → ((accepted ≡ accepted) × (q ≡ 0) × (pick b n 0 ≡ n)) ⊎ (pick b n 0 ≡ 0)
    by true e = inl (refl, eqb-true q 0 e, refl)
    by false e = inr refl

-- ---- the refusals that are none
pub load_none : (S : Shape) (s : List ℕ) → load_refusal S s ≡ 0 → need S ≤ length s
unfolding load_refusal
load_none S s = by (ltb (length s) (need S)) refl
  where
    by : (b : Bool) → ltb (length s) (need S) ≡ b → ◌≡◌ {A = ℕ} (pick b 5 0) 0 → need S ≤ length s
    by true e z = absurd (omega arith)
    by false e z = ltb-false (length s) (need S) e

pub store_none : (T : List ℕ) (S : Shape) (s : List ℕ) → store_refusal T S s ≡ 0 → (need S ≤ length s) × (well_formed T S s ≡ true)
unfolding store_refusal
store_none T S s = by (ltb (length s) (need S)) (well_formed T S s) refl refl
  where
    by : (a b : Bool) → ltb (length s) (need S) ≡ a → well_formed T S s ≡ b → ◌≡◌ {A = ℕ} (pick a 5 (pick b 0 6)) 0 → (need S ≤ length s) × (well_formed T S s ≡ true)
    by true b e f z = absurd (omega arith)
    by false true e f z = (ltb-false (length s) (need S) e, f)
    by false false e f z = absurd (omega arith)

pub store_formed : (T : List ℕ) (S : Shape) (s : List ℕ) → store_refusal T S s ≡ 0 → Formed T S s
store_formed T S s e = let w = store_none T S s e in formed_means T S s w.0 w.1

pub or_else_none : (q p : ℕ) → or_else q p ≡ 0 → (q ≡ 0) × (p ≡ 0)
or_else_none q p = by (eqb q 0) refl
  where
    by : (b : Bool) → eqb q 0 ≡ b → pick b p q ≡ 0 → (q ≡ 0) × (p ≡ 0)
    by true e z = (eqb-true q 0 e, z)
    by false e z = absurd (eqb-false q 0 e z)

pub time_none : (S : Shape) (s : List ℕ) (t : ℕ) → time_refusal S s t ≡ 0 → (wrong_time s t ≡ false) × (beyond_due S s t ≡ false)
unfolding time_refusal
time_none S s t = by (wrong_time s t) (beyond_due S s t) refl refl
  where
    by : (a b : Bool) → wrong_time s t ≡ a → beyond_due S s t ≡ b → ◌≡◌ {A = ℕ} (pick a 7 (pick b 8 0)) 0 → (wrong_time s t ≡ false) × (beyond_due S s t ≡ false)
    by true b e f z = absurd (omega arith)
    by false true e f z = absurd (omega arith)
    by false false e f z = (e, f)

pub event_none : (T : List ℕ) (S : Shape) (s : List ℕ) (o birth : ℕ) (values : List ℕ) → event_refusal T S s o birth values ≡ 0 → (of_source T S o ≡ true) × (birth ≤ now_of s)
unfolding event_refusal
event_none T S s o birth values = by (of_source T S o) (ltb (now_of s) birth) (eqb (length values) (value_count T S o)) refl
  where
    by : (a b c : Bool) → ltb (now_of s) birth ≡ b → ◌≡◌ {A = ℕ} (pick a (pick b 10 (pick c 0 11)) 9) 0 → (a ≡ true) × (birth ≤ now_of s)
    by true true c e z = absurd (omega arith)
    by true false c e z = (refl, ltb-false (now_of s) birth e)
    by false b c e z = absurd (omega arith)
