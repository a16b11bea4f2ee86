-- Document 02, A3, over any sequence of calls since an accepted load: "The standard's E_DELAY counts from the first START, and later ones before the output have
-- no effect." A delay is due where a START was taken since the load, or since its last STOP or output, and it is due so many ticks after the first of these
-- as DT was then.
use Rattle.std.specs.Prelude.{◌≡◌, List, ℕ, ◌<◌, length}
use Rattle.std.proofs.Common.{◌∙◌}
use Rattle.rules_walks.specs.Choose.{choose}
use Rattle.rules_tables.specs.Kind.{delay}
use Rattle.rules_tables.specs.Frame.{flag_at}
use Rattle.rules_tables.specs.declared.Shape.{Shape}
use Rattle.rules_tables.specs.Ids.{elements}
use Rattle.rules_tables.specs.Judge.{judge, shape_of}
use Rattle.rules_tables.specs.Lawful.{Lawful}
use Rattle.rules_tables.proofs.laws.Accepted.{accepted_means}
use Rattle.rules_tables.proofs.laws.Lawful.{lawful}
use Rattle.rules_store.specs.Word.{now_of}
use Rattle.rules_store.specs.Load.{loaded}
use Rattle.rules_calls.specs.Answer.{kept_by}
use Rattle.rules_calls.specs.Calls.{advanced, arrived}
use Rattle.rules_calls.specs.Run.{after}
use Rattle.rules_calls.specs.Refusals.{load_refusal, store_refusal, advance_refusal, event_refusal, arrival_refusal}
use Rattle.rules_calls.specs.Public.{run_moves}
use Rattle.rules_calls.proofs.laws.Public.{run_store_lem}
use Rattle.rules_log.specs.Log.{Log, run_log, advance_log, arrival_log}
use Rattle.rules_log.specs.Sequence.{Since, loads, advances, arrives, runs}
use Rattle.rules_log.specs.Timer.{timer, Clocked}
use Rattle.laws_kept.proofs.laws.Loading.{loaded_due}
use Rattle.laws_log.proofs.laws.Timers.{advance_clocked, arrival_clocked, run_clocked}
use Rattle.laws_calls.proofs.laws.Lawfully.{lawfully}
use Rattle.laws_calls.proofs.laws.Refusals.{done_means, load_none, or_else_none, event_none}
use Rattle.laws_calls.proofs.laws.Steps.{either_way}

module _ (T : List ℕ) (el : ℕ) (within : el < elements (shape_of T)) (is-delay : flag_at T el ≡ delay) where
  abbrev S : Shape
  S = shape_of T

  abbrev AsTold : Log → List ℕ → Type 0
  AsTold l s = Clocked el (timer T S el l) s

  -- what is known before a call
  known : (s : List ℕ) (l : Log) → Since T s l → Lawful T S
  known s l c = lawful T (accepted_means T (lawfully T s l c).verdict)

  pub delay_due : (s : List ℕ) (l : Log) → Since T s l → Clocked el (timer T (shape_of T) el l) s
  unfolding timer choose arrival_refusal
  delay_due s l (loads s₀ s' c) =
      let w = done_means (judge T) (load_refusal S s₀) c.answer in
      let e = c.store ∙ (λ i. kept_by (w.table i) (w.call i) s₀ (loaded T S s₀)) in
      rw e (loaded_due T S s₀ (load_none S s₀ w.call) el within)
  delay_due s l (advances s₀ s' l₀ t r w c) =
      either_way T (lawfully T s₀ l₀ w).verdict AsTold l₀ s₀ (delay_due s₀ l₀ w) (advance_refusal T S s₀ t) (advance_log T S t s₀ l₀) (advanced T S t s₀) s' c.store
      (λ _. advance_clocked T S (known s₀ l₀ w) el within is-delay t s₀ (lawfully T s₀ l₀ w).holds.formed.parts.long l₀ (delay_due s₀ l₀ w))
  delay_due s l (arrives s₀ s' l₀ o birth values r w c) =
      either_way T (lawfully T s₀ l₀ w).verdict AsTold l₀ s₀ (delay_due s₀ l₀ w) (arrival_refusal T S s₀ o birth values) (arrival_log T S o birth values s₀ l₀) (arrived T S o birth values s₀) s' c.store
      (λ e.
      let a = (event_none T S s₀ o birth values (or_else_none (store_refusal T S s₀) (event_refusal T S s₀ o birth values) e).1).0 in
      arrival_clocked T S (known s₀ l₀ w) el within is-delay o birth values s₀ l₀ a (delay_due s₀ l₀ w))
  delay_due s l (runs s₀ s' out out' l₀ budget r w c) =
      let m = run_moves T s₀ budget (length out) in
      either_way T (lawfully T s₀ l₀ w).verdict AsTold l₀ s₀ (delay_due s₀ l₀ w) (store_refusal T S s₀) (run_log T S (now_of s₀) m s₀ l₀) (after T S (now_of s₀) m s₀) s' (run_store_lem T s₀ budget out c)
      (λ _. run_clocked T S (known s₀ l₀ w) el within is-delay s₀ (lawfully T s₀ l₀ w).holds.formed l₀ (delay_due s₀ l₀ w) m)
