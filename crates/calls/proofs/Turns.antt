-- What each way through a public call leaves, over plain variables.
use mathlib.Core.Path.{◌≡◌, refl, sym, ◌∙◌, subst}
use mathlib.Core.List.{List}
use mathlib.Core.Bool.{Bool, true, false}
use Rattle.std.specs.Prelude.{Ok, Err}
use Rattle.std.proofs.Common.{inl, inr}
use Rattle.std.proofs.Math.Logic.{⊎_elim}
use Prim.Native.Nat.{ℕ, ◌≤◌, ◌<◌}
use native.Mathlib.Omega.{arith}
use lib.Dec.{eqb, ltb}
use lib.ListN.{length}
use lib.Seq.{sets}
use borrow.Author.Tests.{eq-eqb, ne_eqb, eqb-true}
use Rattle.rules_walks.specs.Pick.{pick}
use Rattle.rules_walks.proofs.laws.Choose.{choose_true, choose_false}
use Rattle.rules_tables.specs.declared.Shape.{Shape}
use Rattle.rules_tables.specs.declared.Refusal.{Refusal}
use Rattle.rules_tables.specs.Judge.{Verdict, accepted, judge, shape_of}
use Rattle.rules_store.specs.Layout.{need}
use Rattle.rules_store.specs.Word.{now_of}
use Rattle.rules_store.specs.Load.{loaded}
use Rattle.rules_store.specs.Earliest.{NextKept}
use Rattle.rules_store.specs.WellFormed.{well_formed}
use Rattle.rules_store.proofs.laws.PutDue.{formed_keeps}
use Rattle.calls_run.specs.declared.running.Ran.{Ran}
use Rattle.rules_calls.specs.Run.{after, bytes}
use Rattle.rules_calls.specs.Calls.{advanced, arrived, of_source, value_count}
use Rattle.rules_calls.specs.Answer.{answer_by, kept_by, Answer}
use Rattle.rules_calls.specs.declared.Outcome.TheVariants.{Done, Ran as «RanTo»}
use Rattle.rules_calls.specs.Public.{run_answer, LoadCall, AdvanceCall, ArrivalCall, run_moves, RunCall}
use Rattle.rules_calls.specs.Refusals.{load_refusal, store_refusal, or_else, time_refusal, advance_refusal, event_refusal, arrival_refusal}
use Rattle.rules_calls.proofs.laws.Public.{load_call, advance_call, arrival_call, run_call}
use Rattle.laws_calls.proofs.laws.Refusals.{load_none, store_formed}
use Rattle.calls_run.specs.RunMade.{RunMade}
use Rattle.calls.specs.Opening.{Stops, Refuses, Stands}

-- ---- by the verdict and the call's own refusal
module _ (v : Verdict) (q : ℕ) where
  pub answer_refuses : {r : Refusal} (answer : Answer) → Refuses v q r → Err r ≡ answer_by v q answer
  answer_refuses answer h = ⊎_elim (λ e. rw e refl) (λ w. rw (w.0, w.1.is, ne_eqb q 0 w.1.some) refl) h

  pub kept_refuses : {r : Refusal} (s x : List ℕ) → Refuses v q r → s ≡ kept_by v q s x
  kept_refuses s x h = ⊎_elim (λ e. rw e refl) (λ w. rw (w.0, choose_false (eqb q 0) x s (ne_eqb q 0 w.1.some)) refl) h

  pub answer_pass : (answer : Answer) → v ≡ accepted → q ≡ 0 → answer ≡ answer_by v q answer
  answer_pass answer e z = rw (e, eq-eqb q 0 z)

  pub kept_pass : (s x : List ℕ) {s' : List ℕ} → v ≡ accepted → q ≡ 0 → s' ≡ x → s' ≡ kept_by v q s x
  kept_pass s x e z u = rw (e, choose_true (eqb q 0) x s (eq-eqb q 0 z)) u

-- ---- the first of two refusals
or_first : (q p : ℕ) → (q ≡ 0 → ⊥) → or_else q p ≡ q
or_first q p n = rw (ne_eqb q 0 n) refl

or_second : (q p : ℕ) → q ≡ 0 → or_else q p ≡ p
or_second q p z = rw (eq-eqb q 0 z) refl

refuses_first : (v : Verdict) (q p : ℕ) {r : Refusal} → Refuses v q r → Refuses v (or_else q p) r
refuses_first v q p {r} h =
    ⊎_elim (λ e. inl e) (λ w. inr (w.0, subst (λ (n : ℕ). Stops n r) (sym (or_first q p w.1.some)) w.1)) h

refuses_second : (v : Verdict) (q p : ℕ) {r : Refusal} → v ≡ accepted → q ≡ 0 → Stops p r → Refuses v (or_else q p) r
refuses_second v q p {r} e z h = inr (e, subst (λ (n : ℕ). Stops n r) (sym (or_second q p z)) h)

-- ---- 5, then 6
module _ (T : List ℕ) (S : Shape) (s : List ℕ) where
  pub short_stops : {r : Refusal} → Stops (load_refusal S s) r → Stops (store_refusal T S s) r
  unfolding load_refusal store_refusal
  short_stops {r} h = by (ltb (length s) (need S)) h
    where
      by : (b : Bool) → Stops (pick b 5 0) r → Stops (pick b 5 (pick (well_formed T S s) 0 6)) r
      by true w = w
      by false w = absurd (w.some refl)

  pub long_then : {b : Bool} → load_refusal S s ≡ 0 → b ≡ well_formed T S s → store_refusal T S s ≡ pick b 0 6
  unfolding load_refusal store_refusal
  long_then e w = rw w (by (ltb (length s) (need S)) e)
    where
      by : (a : Bool) → ◌≡◌ {A = ℕ} (pick a 5 0) 0 → ◌≡◌ {A = ℕ} (pick a 5 (pick (well_formed T S s) 0 6)) (pick (well_formed T S s) 0 6)
      by true z = absurd (omega arith)
      by false z = refl

-- ---- no refusal of the store: it is long enough and well formed, so now is in range
pub store_now : (T : List ℕ) (S : Shape) (s : List ℕ) → store_refusal T S s ≡ 0 → now_of s < 2147483648
store_now T S s e = let w = (store_formed T S s e).parts.in_time in omega arith

-- an arrival that is not refused names an event output of a source and has its number of values
pub event_known : (T : List ℕ) (S : Shape) (s : List ℕ) (o birth : ℕ) (vs : List ℕ) → event_refusal T S s o birth vs ≡ 0 → (of_source T S o ≡ true) × (length vs ≡ value_count T S o)
unfolding event_refusal
event_known T S s o birth vs e = by (of_source T S o) (ltb (now_of s) birth) (eqb (length vs) (value_count T S o)) refl refl e
  where
    by : (a b c : Bool) → of_source T S o ≡ a → eqb (length vs) (value_count T S o) ≡ c → ◌≡◌ {A = ℕ} (pick a (pick b 10 (pick c 0 11)) 9) 0 → (of_source T S o ≡ true) × (length vs ≡ value_count T S o)
    by true false true h k z = (h, eqb-true _ _ k)
    by true true c h k z = absurd (omega arith)
    by true false false h k z = absurd (omega arith)
    by false b c h k z = absurd (omega arith)

-- ---- load
module _ (T s : List ℕ) where
  abbrev load_asks : ℕ
  load_asks = load_refusal (shape_of T) s

  abbrev load_would : List ℕ
  load_would = loaded T (shape_of T) s

  pub load_stops : {r : Refusal} → Refuses (judge T) load_asks r → LoadCall T s (Err r) s
  load_stops h = load_call T s (answer_refuses (judge T) load_asks (Ok Done) h) (kept_refuses (judge T) load_asks s load_would h)

  module _ {T' : List ℕ} {S : Shape} (k : Stands T T' S) (z : load_asks ≡ 0) where
    pub load_long : need S ≤ length s
    load_long = rw k.shape (load_none (shape_of T) s z)

    pub load_done : {s' : List ℕ} → s' ≡ loaded T' S s → LoadCall T s (Ok Done) s'
    load_done u = load_call T s (answer_pass (judge T) load_asks (Ok Done) k.sound z) (kept_pass (judge T) load_asks s load_would k.sound z (rw (k.table, k.shape) at u))

-- ---- the store of a call that is opened has its next due time
pub ready_kept : (T : List ℕ) {T' : List ℕ} {S : Shape} (s : List ℕ) → Stands T T' S → store_refusal T (shape_of T) s ≡ 0 → NextKept S s
ready_kept T s k z = rw k.shape (formed_keeps T (shape_of T) s (store_formed T (shape_of T) s z))

-- ---- advance
module _ (T s : List ℕ) (t : ℕ) where
  abbrev ready_asks : ℕ
  ready_asks = store_refusal T (shape_of T) s

  abbrev time_asks : ℕ
  time_asks = time_refusal (shape_of T) s t

  abbrev advance_would : List ℕ
  advance_would = advanced T (shape_of T) t s

  advance_stops_by : {r : Refusal} → Refuses (judge T) (or_else ready_asks time_asks) r → AdvanceCall T s t (Err r) s
  unfolding advance_refusal
  advance_stops_by h =
      advance_call T s t (answer_refuses (judge T) (advance_refusal T (shape_of T) s t) (Ok Done) h) (kept_refuses (judge T) (advance_refusal T (shape_of T) s t) s advance_would h)

  pub advance_stops : {r : Refusal} → Refuses (judge T) ready_asks r → AdvanceCall T s t (Err r) s
  advance_stops h = advance_stops_by (refuses_first (judge T) ready_asks time_asks h)

  module _ {T' : List ℕ} {S : Shape} (k : Stands T T' S) (z : ready_asks ≡ 0) where
    pub advance_refused : {r : Refusal} → Stops (time_refusal S s t) r → AdvanceCall T s t (Err r) s
    advance_refused h = advance_stops_by (refuses_second (judge T) ready_asks time_asks k.sound z (rw k.shape at h))

    pub advance_done : {s' : List ℕ} → time_refusal S s t ≡ 0 → s' ≡ advanced T' S t s → AdvanceCall T s t (Ok Done) s'
    unfolding advance_refusal
    advance_done e u =
        let n : advance_refusal T (shape_of T) s t ≡ 0 = or_second ready_asks time_asks z ∙ (rw k.shape at e) in
        advance_call T s t (answer_pass (judge T) (advance_refusal T (shape_of T) s t) (Ok Done) k.sound n)
        (kept_pass (judge T) (advance_refusal T (shape_of T) s t) s advance_would k.sound n (rw (k.table, k.shape) at u))

-- ---- arrival
module _ (T s : List ℕ) (o birth : ℕ) (vs : List ℕ) where
  abbrev open_asks : ℕ
  open_asks = store_refusal T (shape_of T) s

  abbrev event_asks : ℕ
  event_asks = event_refusal T (shape_of T) s o birth vs

  abbrev arrival_would : List ℕ
  arrival_would = arrived T (shape_of T) o birth vs s

  arrival_stops_by : {r : Refusal} → Refuses (judge T) (or_else open_asks event_asks) r → ArrivalCall T s o birth vs (Err r) s
  unfolding arrival_refusal
  arrival_stops_by h =
      arrival_call T s o birth vs (answer_refuses (judge T) (arrival_refusal T (shape_of T) s o birth vs) (Ok Done) h)
      (kept_refuses (judge T) (arrival_refusal T (shape_of T) s o birth vs) s arrival_would h)

  pub arrival_stops : {r : Refusal} → Refuses (judge T) open_asks r → ArrivalCall T s o birth vs (Err r) s
  arrival_stops h = arrival_stops_by (refuses_first (judge T) open_asks event_asks h)

  module _ {T' : List ℕ} {S : Shape} (k : Stands T T' S) (z : open_asks ≡ 0) where
    pub arrival_refused : {r : Refusal} → Stops (event_refusal T' S s o birth vs) r → ArrivalCall T s o birth vs (Err r) s
    arrival_refused h = arrival_stops_by (refuses_second (judge T) open_asks event_asks k.sound z (rw (k.table, k.shape) at h))

    pub arrival_done : {s' : List ℕ} → event_refusal T' S s o birth vs ≡ 0 → s' ≡ arrived T' S o birth vs s → ArrivalCall T s o birth vs (Ok Done) s'
    unfolding arrival_refusal
    arrival_done e u =
        let n : arrival_refusal T (shape_of T) s o birth vs ≡ 0 = or_second open_asks event_asks z ∙ (rw (k.table, k.shape) at e) in
        arrival_call T s o birth vs (answer_pass (judge T) (arrival_refusal T (shape_of T) s o birth vs) (Ok Done) k.sound n)
        (kept_pass (judge T) (arrival_refusal T (shape_of T) s o birth vs) s arrival_would k.sound n (rw (k.table, k.shape) at u))

-- ---- run
module _ (T s : List ℕ) (budget : ℕ) (out : List ℕ) where
  abbrev run_asks : ℕ
  run_asks = store_refusal T (shape_of T) s

  abbrev would : Answer
  would = run_answer T s budget (length out) (run_moves T s budget (length out))

  abbrev store_would : List ℕ
  store_would = after T (shape_of T) (now_of s) (run_moves T s budget (length out)) s

  abbrev out_would : List ℕ
  out_would = sets out 0 (bytes T (shape_of T) (now_of s) (run_moves T s budget (length out)) s)

  pub run_stops : {r : Refusal} → Refuses (judge T) run_asks r → RunCall T s budget out (Err r) s out
  run_stops h =
      run_call T s budget out (answer_refuses (judge T) run_asks would h) (kept_refuses (judge T) run_asks s store_would h) (kept_refuses (judge T) run_asks out out_would h)

  pub run_done : {T' : List ℕ} {S : Shape} → Stands T T' S → run_asks ≡ 0 → {time : ℕ} (x : Ran) {s' out' : List ℕ} → time ≡ now_of s → RunMade T' S time budget s out x s' out'
      → RunCall T s budget out (Ok («RanTo» x.moves x.bytes x.stop x.untrue)) s' out'
  run_done k z x {s'} {out'} t d =
      let w : RunMade T (shape_of T) (now_of s) budget s out x s' out' = rw (k.table, k.shape, t) at d in
      let e : Ok («RanTo» x.moves x.bytes x.stop x.untrue) ≡ would = rw (← w.moves_made, ← w.bytes_written, ← w.stopped, ← w.untrue_made) in
      run_call T s budget out (e ∙ answer_pass (judge T) run_asks would k.sound z)
      (kept_pass (judge T) run_asks s store_would k.sound z (rw (← w.moves_made) w.store_after))
      (kept_pass (judge T) run_asks out out_would k.sound z (rw (← w.moves_made) w.out_after))
