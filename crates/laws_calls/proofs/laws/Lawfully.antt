-- The laws hold after any sequence of calls since an accepted load: they hold after the load, and each call keeps them.
use Rattle.std.specs.Prelude.{◌≡◌, List, ℕ, length, Ok}
use Rattle.std.proofs.Common.{◌∙◌, le-ltb}
use Rattle.rules_walks.specs.Choose.{choose}
use Rattle.rules_tables.specs.Judge.{judge, shape_of}
use Rattle.rules_tables.proofs.laws.Accepted.{accepted_means}
use Rattle.rules_store.specs.Layout.{need}
use Rattle.rules_tables.proofs.laws.Lawful.{lawful}
use Rattle.rules_store.specs.Load.{loaded}
use Rattle.rules_calls.specs.Answer.{kept_by}
use Rattle.rules_calls.specs.Refusals.{load_refusal, store_refusal}
use Rattle.rules_calls.specs.Public.{LoadCall}
use Rattle.rules_calls.specs.declared.Outcome.TheVariants.{Done}
use Rattle.rules_store.proofs.laws.WellFormed.{formed_tests}
use Rattle.rules_log.specs.Log.{Log, empty}
use Rattle.rules_log.specs.Origin.{fresh}
use Rattle.laws_log.proofs.laws.Loaded.{loaded_holds}
use Rattle.rules_log.specs.Sequence.{Since, loads, advances, arrives, runs}
use Rattle.laws_calls.proofs.laws.Refusals.{done_means, load_none}
use Rattle.laws_calls.proofs.laws.Steps.{advance_step, arrival_step, run_step}
use Rattle.laws_calls.specs.Lawfully.{Lawfully}

load_lawfully : (T s s' : List ℕ) → LoadCall T s (Ok Done) s' → Lawfully T s' empty
unfolding choose
load_lawfully T s s' c =
    let S = shape_of T in
    let w = done_means (judge T) (load_refusal S s) c.answer in
    let e = c.store ∙ (λ i. kept_by (w.table i) (w.call i) s (loaded T S s)) in
    record { verdict = w.table; holds = rw e (loaded_holds T S (lawful T (accepted_means T w.table)) s (load_none S s w.call)) }

pub lawfully : (T s : List ℕ) (l : Log) → Since T s l → Lawfully T s l
lawfully T s l (loads s₀ s' c) = load_lawfully T s₀ s' c
lawfully T s l (advances s₀ s' l₀ t r w c) =
    let h = lawfully T s₀ l₀ w in
    record { verdict = h.verdict; holds = (advance_step T h.verdict (fresh T (shape_of T)) l₀ s₀ h.holds s' t r c).holds }
lawfully T s l (arrives s₀ s' l₀ o birth values r w c) =
    let h = lawfully T s₀ l₀ w in
    record { verdict = h.verdict; holds = (arrival_step T h.verdict (fresh T (shape_of T)) l₀ s₀ h.holds s' o birth values r c).holds }
lawfully T s l (runs s₀ s' out out' l₀ budget r w c) =
    let h = lawfully T s₀ l₀ w in
    record { verdict = h.verdict; holds = (run_step T h.verdict (fresh T (shape_of T)) l₀ s₀ h.holds s' out out' budget r c).holds }

-- "after an accepted load no call on that table and store is ever refused 6", nor 5
pub never_refused : (T s : List ℕ) (l : Log) → Since T s l → store_refusal T (shape_of T) s ≡ 0
unfolding store_refusal
never_refused T s l w =
    let f = (lawfully T s l w).holds.formed in
    rw (le-ltb (length s) (need (shape_of T)) f.parts.long, formed_tests T (shape_of T) s f)
