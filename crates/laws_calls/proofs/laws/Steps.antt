-- One public call, from a store in which the laws hold: they hold after it, and what every call keeps is kept.
use Rattle.std.specs.Prelude.{◌≡◌, List, Bool, true, false, ℕ, ◌≤◌, eqb, length}
use Rattle.std.proofs.Math.Path.{refl}
use Rattle.std.proofs.Common.{ap, ◌∙◌, eqb-true}
use native.Mathlib.Omega.{arith}
use Rattle.rules_walks.specs.Choose.{choose}
use Rattle.rules_tables.specs.declared.Shape.{Shape}
use Rattle.rules_tables.specs.Judge.{Verdict, accepted, judge, shape_of}
use Rattle.rules_tables.proofs.laws.Accepted.{accepted_means}
use Rattle.rules_store.specs.Word.{now_of, untrue}
use Rattle.rules_store.specs.Part.{time, just}
use Rattle.rules_store.proofs.laws.Writer.{leaves_now}
use Rattle.rules_store.proofs.laws.Own.{now_put}
use Rattle.rules_calls.specs.Run.{after}
use Rattle.rules_calls.specs.Calls.{advanced, arrived}
use Rattle.rules_calls.specs.Answer.{kept_by, Answer}
use Rattle.rules_calls.specs.Refusals.{store_refusal, time_refusal, advance_refusal, event_refusal, arrival_refusal}
use Rattle.rules_calls.specs.Public.{run_moves, AdvanceCall, ArrivalCall, RunCall}
use Rattle.rules_calls.proofs.laws.Public.{run_store_lem}
use Rattle.rules_tables.specs.Lawful.{Lawful}
use Rattle.rules_tables.proofs.laws.Lawful.{lawful}
use Rattle.rules_log.specs.Log.{Log, advance_log, arrival_log, run_log}
use Rattle.rules_log.specs.Origin.{Begun}
use Rattle.laws_log.specs.Holds.{Holds}
use Rattle.laws_log.specs.Goes.{Onward}
use Rattle.laws_log.proofs.laws.Moves.{run_goes}
use Rattle.laws_log.proofs.laws.Calls.{advance_goes, advance_later, arrival_goes}
use Rattle.laws_log.proofs.laws.Untrue.{after_grows, advanced_untrue, arrived_untrue}
use Rattle.rules_log.specs.Sequence.{unless, log_advance, log_arrival, log_run}
use Rattle.laws_calls.proofs.laws.Refusals.{or_else_none, time_none, event_none}
use Rattle.laws_calls.specs.Steps.{Steady, Step}

pub steady_all : (S : Shape) (s : List ℕ) → Steady S s s
steady_all S s = record { long = refl; past = λ p h. refl; later = omega arith; grows = omega arith; untrue_grows = omega arith }

onward_steady : (T : List ℕ) (S : Shape) (s s' : List ℕ) → Onward T S s s' → untrue s ≤ untrue s' → Steady S s s'
onward_steady T S s s' w u =
    record { long = w.leaves.long; past = w.leaves.past; later = let n = w.leaves.now refl in omega arith; grows = w.grows; untrue_grows = u }

-- a call that is refused, or done with this log and store: what holds of both holds after it
pub either_way : (T : List ℕ) → judge T ≡ accepted → (P : Log → List ℕ → Type 0) (l : Log) (s : List ℕ) → P l s
    → (q : ℕ) (l' : Log) (x s' : List ℕ) → s' ≡ kept_by (judge T) q s x → (q ≡ 0 → P l' x) → P (unless q l' l) s'
unfolding choose
either_way T v P l s h q l' x s' e g = rw (e ∙ ap (λ (y : Verdict). kept_by y q s x) v) (by (eqb q 0) refl)
  where
    by : (b : Bool) → eqb q 0 ≡ b → P (choose b l' l) (choose b x s)
    by true z = g (eqb-true q 0 z)
    by false z = h

module _ (T : List ℕ) (v : judge T ≡ accepted) (B : Begun) (l : Log) (s : List ℕ) (h : Holds T (shape_of T) B l s) where
  pub knows : Lawful T (shape_of T)
  knows = lawful T (accepted_means T v)

  step_or_not : (q : ℕ) (l' : Log) (x s' : List ℕ) → s' ≡ kept_by (judge T) q s x → (q ≡ 0 → Step T B s l' x) → Step T B s (unless q l' l) s'
  step_or_not = either_way T v (Step T B s) l s (record { holds = h; steady = steady_all (shape_of T) s })

  pub advance_step : (s' : List ℕ) (t : ℕ) (r : Answer) → AdvanceCall T s t r s' → Step T B s (log_advance T s t l) s'
  unfolding advance_refusal
  advance_step s' t r c =
      let S = shape_of T in
      step_or_not (advance_refusal T S s t) (advance_log T S t s l) (advanced T S t s) s' c.store
      (λ e.
      let w = time_none S s t (or_else_none (store_refusal T S s) (time_refusal S s t) e).1 in
      let g = advance_goes T S B knows l s h t w.0 w.1 in
      let u = leaves_now T S (just time) s t refl in
      let o = g.onward.leaves in
      let n = now_put S s h.formed.parts.long t in
      let a = advance_later T S B knows l s h t w.0 in
      let m = o.now refl in
      let d = u.counted refl in
      let gr = g.onward.grows in
      let un = advanced_untrue T S knows t s in
      record {
        holds = g.holds;
        steady = record { long = o.long ∙ u.long; past = λ p b. o.past p b ∙ u.past p b; later = omega arith; grows = omega arith; untrue_grows = omega arith };
      })

  pub arrival_step : (s' : List ℕ) (o birth : ℕ) (values : List ℕ) (r : Answer) → ArrivalCall T s o birth values r s' → Step T B s (log_arrival T s o birth values l) s'
  unfolding arrival_refusal
  arrival_step s' o birth values r c =
      let S = shape_of T in
      step_or_not (arrival_refusal T S s o birth values) (arrival_log T S o birth values s l) (arrived T S o birth values s) s' c.store
      (λ e.
      let b = (event_none T S s o birth values (or_else_none (store_refusal T S s) (event_refusal T S s o birth values) e).1).1 in
      let g = arrival_goes T S B knows l s h o birth values b in
      record { holds = g.holds; steady = onward_steady T S s (arrived T S o birth values s) g.onward (let un = arrived_untrue T S knows o birth values s in omega arith) })

  pub run_step : (s' out out' : List ℕ) (budget : ℕ) (r : Answer) → RunCall T s budget out r s' out' → Step T B s (log_run T s budget out l) s'
  run_step s' out out' budget r c =
      let S = shape_of T in
      let m = run_moves T s budget (length out) in
      step_or_not (store_refusal T S s) (run_log T S (now_of s) m s l) (after T S (now_of s) m s) s' (run_store_lem T s budget out c)
      (λ e.
      let g = run_goes T S B knows s l m h in
      record { holds = g.holds; steady = onward_steady T S s (after T S (now_of s) m s) g.onward (after_grows T S knows s h.formed m) })
