-- What every public call keeps, on every table and store.
use Rattle.std.specs.Prelude.{◌≡◌, List, [], ◌∷◌, Bool, ◌⊎◌, ℕ, suc, ◌+◌, ◌≤◌, ◌<◌, length, get_or, set, Ok, Err}
use Rattle.std.proofs.Math.Path.{refl}
use Rattle.std.proofs.Common.{sym, ap, ◌∙◌, inl, inr, arith, get_or-set_other, eqb-true}
use Rattle.std.proofs.Math.Bool.{true, false}
use Rattle.std.proofs.Math.Dec.{eqb}
use Rattle.std.proofs.lemmas.List.Edits.{sets}
use Rattle.std.proofs.Math.Seq.{length-sets}
use Rattle.rules_walks.specs.Pick.{pick, both}
use Rattle.rules_walks.specs.Choose.{choose}
use Rattle.rules_walks.proofs.laws.Held.{held}
use Rattle.rules_tables.specs.declared.Shape.{Shape}
use Rattle.rules_tables.specs.Judge.{Verdict, accepted, refused, judge, shape_of, refusal}
use Rattle.rules_store.specs.Layout.{need}
use Rattle.rules_store.specs.Kept.{Kept}
use Rattle.rules_store.proofs.laws.Kept.{kept_all}
use Rattle.rules_store.specs.Word.{now_of}
use Rattle.rules_store.specs.WellFormed.{well_formed}
use Rattle.rules_store.specs.Load.{loaded}
use Rattle.rules_store.proofs.laws.Load.{loaded_kept}
use Rattle.rules_calls.specs.Run.{bytes, another, room_for, continues, made, stop_after}
use Rattle.rules_calls.specs.Answer.{moves_of, bytes_of, stop_of, answer_by, kept_by, Answer}
use Rattle.rules_calls.specs.Refusals.{load_refusal, store_refusal, time_refusal, advance_refusal, event_refusal, arrival_refusal}
use Rattle.rules_calls.specs.Public.{run_moves, LoadCall, AdvanceCall, ArrivalCall, RunCall, run_answer}
use Rattle.rules_calls.proofs.laws.Public.{run_store_lem, run_output_lem as «output_is»}
use Rattle.rules_calls.specs.declared.Outcome.TheVariants.{Done, Ran}
use Rattle.rules_store.proofs.laws.WellFormed.{formed_tests}
use Rattle.rules_log.specs.Log.{empty}
use Rattle.rules_log.specs.Origin.{as_found}
use Rattle.laws_log.specs.Holds.{Holds}
use Rattle.laws_log.proofs.laws.Holds.{found_holds}
use Rattle.rules_log.specs.Sequence.{loads}
use Rattle.laws_calls.proofs.laws.Refusals.{done_means, ran_means, store_formed, or_else_none}
use Rattle.laws_calls.specs.Steps.{Steady}
use Rattle.laws_calls.proofs.laws.Steps.{steady_all, advance_step, arrival_step, run_step}
use Rattle.laws_calls.proofs.laws.Lawfully.{lawfully}
use Rattle.laws_calls.specs.Kept.{OutputKept}

-- ---- "A refusal returns its number ..; nothing is written."
refused_keeps : (v : Verdict) (q p f : ℕ) (d : Answer) (s x : List ℕ) → ((a b : ℕ) → d ≡ Err (refusal a b) → ⊥) → Err (refusal p f) ≡ answer_by v q d → kept_by v q s x ≡ s
unfolding choose
refused_keeps (refused n g) q p f d s x h e = refl
refused_keeps accepted q p f d s x h e = by (eqb q 0) e
  where
    by : (b : Bool) → Err (refusal p f) ≡ pick b d (Err (refusal q 0)) → choose b x s ≡ s
    by true z = absurd (h p f (sym z))
    by false z = refl

done_other : (a b : ℕ) → Ok Done ≡ Err (refusal a b) → ⊥
done_other a b e = let y : ◌≡◌ {A = ℕ} 0 1 = cc in omega arith

ran_other : (m n k u a b : ℕ) → Ok (Ran m n k u) ≡ Err (refusal a b) → ⊥
ran_other m n k u a b e = let y : ◌≡◌ {A = ℕ} 0 1 = cc in omega arith

module _ (T s s' : List ℕ) (p f : ℕ) where
  pub load_refused : LoadCall T s (Err (refusal p f)) s' → s' ≡ s
  load_refused c = c.store ∙ refused_keeps (judge T) (load_refusal (shape_of T) s) p f (Ok Done) s (loaded T (shape_of T) s) done_other c.answer

  pub advance_refused : (t : ℕ) → AdvanceCall T s t (Err (refusal p f)) s' → s' ≡ s
  advance_refused t c = c.store ∙ refused_keeps (judge T) (advance_refusal T (shape_of T) s t) p f (Ok Done) s _ done_other c.answer

  pub arrival_refused : (o birth : ℕ) (values : List ℕ) → ArrivalCall T s o birth values (Err (refusal p f)) s' → s' ≡ s
  arrival_refused o birth values c = c.store ∙ refused_keeps (judge T) (arrival_refusal T (shape_of T) s o birth values) p f (Ok Done) s _ done_other c.answer

  pub run_refused : (budget : ℕ) (out out' : List ℕ) → RunCall T s budget out (Err (refusal p f)) s' out' → (s' ≡ s) × (out' ≡ out)
  run_refused budget out out' c =
      let m = run_moves T s budget (length out) in
      let d = run_answer T s budget (length out) m in (
        run_store_lem T s budget out c ∙ refused_keeps (judge T) (store_refusal T (shape_of T) s) p f d s _ (ran_other _ _ _ _) c.answer,
        «output_is» T s budget out c ∙ refused_keeps (judge T) (store_refusal T (shape_of T) s) p f d out _ (ran_other _ _ _ _) c.answer,
      )

-- ---- "Words past the need are never touched"; now and both counts never fall. Load begins them anew
module _ (T s s' : List ℕ) where
  -- the shape of the table that the call has checked
  abbrev S : Shape
  S = shape_of T

  -- either the call changed nothing, or it was accepted, on a store that is well formed
  steadily : (v : Verdict) → judge T ≡ v → (q : ℕ) (x : List ℕ) → s' ≡ kept_by v q s x → (judge T ≡ accepted → q ≡ 0 → Steady S s s') → Steady S s s'
  unfolding choose
  steadily (refused p f) e q x k h = rw k (steady_all S s)
  steadily accepted e q x k h = by (eqb q 0) refl k
    where
      by : (b : Bool) → eqb q 0 ≡ b → s' ≡ choose b x s → Steady S s s'
      by true z m = h e (eqb-true q 0 z)
      by false z m = rw m (steady_all S s)

  found : store_refusal T S s ≡ 0 → Holds T S (as_found S s) empty s
  found e = found_holds T S s (store_formed T S s e)

  pub advance_steady : (t : ℕ) (r : Answer) → AdvanceCall T s t r s' → Steady S s s'
  unfolding advance_refusal
  advance_steady t r c =
      steadily (judge T) refl (advance_refusal T S s t) _ c.store
      (λ v z. (advance_step T v (as_found S s) empty s (found (or_else_none (store_refusal T S s) (time_refusal S s t) z).0) s' t r c).steady)

  pub arrival_steady : (o birth : ℕ) (values : List ℕ) (r : Answer) → ArrivalCall T s o birth values r s' → Steady S s s'
  unfolding arrival_refusal
  arrival_steady o birth values r c =
      steadily (judge T) refl (arrival_refusal T S s o birth values) _ c.store
      (λ v z. (arrival_step T v (as_found S s) empty s (found (or_else_none (store_refusal T S s) (event_refusal T S s o birth values) z).0) s' o birth values r c).steady)

  pub run_steady : (budget : ℕ) (out out' : List ℕ) (r : Answer) → RunCall T s budget out r s' out' → Steady S s s'
  run_steady budget out out' r c =
      steadily (judge T) refl (store_refusal T S s) _ (run_store_lem T s budget out c) (λ v z. (run_step T v (as_found S s) empty s (found z) s' out out' budget r c).steady)

  loaded_or_not : (v : Verdict) (q : ℕ) → Kept (need S) s (kept_by v q s (loaded T S s))
  unfolding choose
  loaded_or_not (refused p f) q = kept_all (need S) s
  loaded_or_not accepted q = by (eqb q 0)
    where
      by : (b : Bool) → Kept (need S) s (choose b (loaded T S s) s)
      by true = loaded_kept T S s
      by false = kept_all (need S) s

  pub load_past : (r : Answer) → LoadCall T s r s' → Kept (need S) s s'
  load_past r c = rw c.store (loaded_or_not (judge T) (load_refusal S s))

-- no byte of the output past those reported is changed
sets_past : (l : List ℕ) (i : ℕ) (vs : List ℕ) (p : ℕ) → i + length vs ≤ p → get_or (sets l i vs) p 0 ≡ get_or l p 0
sets_past l i [] p h = refl
sets_past l i (v ∷ vs) p h = sets_past (set l i v) (suc i) vs p (omega arith) ∙ get_or-set_other l i p v 0 (λ e. omega arith)

output_or_not : (v : Verdict) (q : ℕ) (d r : Answer) (out b : List ℕ) → length b ≡ bytes_of d → r ≡ answer_by v q d → OutputKept (bytes_of r) out (kept_by v q out (sets out 0 b))
unfolding choose
output_or_not (refused p f) q d r out b l e = record { long = refl; past = λ k h. refl }
output_or_not accepted q d r out b l e = by (eqb q 0) e
  where
    by : (c : Bool) → r ≡ pick c d (Err (refusal q 0)) → OutputKept (bytes_of r) out (choose c (sets out 0 b) out)
    by true z =
        let n : bytes_of r ≡ length b = ap bytes_of z ∙ sym l in
        record { long = length-sets out 0 b; past = λ k h. sets_past out 0 b k (omega arith) }
    by false z = record { long = refl; past = λ k h. refl }

pub run_output_lem : (T s : List ℕ) (budget : ℕ) (out s' out' : List ℕ) (r : Answer) → RunCall T s budget out r s' out' → OutputKept (bytes_of r) out out'
run_output_lem T s budget out s' out' r c =
    let m = run_moves T s budget (length out) in
    rw («output_is» T s budget out c) (output_or_not (judge T) (store_refusal T (shape_of T) s) (run_answer T s budget (length out) m) r out (bytes T (shape_of T) (now_of s) m s) refl c.answer)

-- ---- well-formedness: load gives it, and every call that is not refused keeps it
module _ (T s s' : List ℕ) where
  pub load_formed : LoadCall T s (Ok Done) s' → well_formed T (shape_of T) s' ≡ true
  load_formed c = formed_tests T (shape_of T) s' (lawfully T s' empty (loads s s' c)).holds.formed

  pub advance_formed : (t : ℕ) → AdvanceCall T s t (Ok Done) s' → well_formed T (shape_of T) s' ≡ true
  unfolding advance_refusal
  advance_formed t c =
      let S = shape_of T in
      let w = done_means (judge T) (advance_refusal T S s t) c.answer in
      let z = or_else_none (store_refusal T S s) (time_refusal S s t) w.call in
      formed_tests T S s' (advance_step T w.table (as_found S s) empty s (found_holds T S s (store_formed T S s z.0)) s' t (Ok Done) c).holds.formed

  pub arrival_formed : (o birth : ℕ) (values : List ℕ) → ArrivalCall T s o birth values (Ok Done) s' → well_formed T (shape_of T) s' ≡ true
  unfolding arrival_refusal
  arrival_formed o birth values c =
      let S = shape_of T in
      let w = done_means (judge T) (arrival_refusal T S s o birth values) c.answer in
      let z = or_else_none (store_refusal T S s) (event_refusal T S s o birth values) w.call in
      formed_tests T S s' (arrival_step T w.table (as_found S s) empty s (found_holds T S s (store_formed T S s z.0)) s' o birth values (Ok Done) c).holds.formed

  pub run_formed : (budget : ℕ) (out out' : List ℕ) (m b n u : ℕ) → RunCall T s budget out (Ok (Ran m b n u)) s' out' → well_formed T (shape_of T) s' ≡ true
  run_formed budget out out' m b n u c =
      let S = shape_of T in
      let w = ran_means (judge T) (store_refusal T S s) m b n u _ c.answer in
      formed_tests T S s' (run_step T w.table (as_found S s) empty s (found_holds T S s (store_formed T S s w.call)) s' out out' budget (Ok (Ran m b n u)) c).holds.formed

-- ---- progress: a run that has budget left over stops for want of a move (1) or of room (3)
stop_why : (a b : Bool) → both a b ≡ false → (◌≡◌ {A = ℕ} (pick a (pick b 2 3) 1) 1) ⊎ (◌≡◌ {A = ℕ} (pick a (pick b 2 3) 1) 3)
stop_why true true e = absurd (let z : ◌≡◌ {A = ℕ} 0 1 = ap (λ (x : Bool). pick x 1 0) (sym e) in omega arith)
stop_why true false e = inr refl
stop_why false b e = inl refl

pub progress : (T s : List ℕ) (budget : ℕ) (out s' out' : List ℕ) (m b n u : ℕ) → RunCall T s budget out (Ok (Ran m b n u)) s' out' → m < budget → (n ≡ 1) ⊎ (n ≡ 3)
unfolding made continues stop_after
progress T s budget out s' out' m b n u c l =
    let S = shape_of T in
    let t = now_of s in
    let room = length out in
    let k = run_moves T s budget room in
    let w = ran_means (judge T) (store_refusal T S s) m b n u (run_answer T s budget room k) c.answer in
    let e : Ok (Ran m b n u) ≡ run_answer T s budget room k = w.is in
    let em : m ≡ k = ap moves_of e in
    let en : n ≡ stop_after T S t room s k = ap stop_of e in
    let h = (held (continues T S t room s) budget).stopped (omega arith) in
    rw en (stop_why (another T S t s k) (room_for T S t room s k) h)
