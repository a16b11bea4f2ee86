-- Document 02, A5: "Show that the stored answer is always the one found by looking." It follows from well-formedness, which every call keeps. And what a host does
-- with it: it may let time pass to the stored time and no further.
use Rattle.std.specs.Prelude.{◌≡◌, not, List, ℕ, eqb, ltb, Ok}
use Rattle.rules_walks.specs.Pick.{both}
use Rattle.rules_tables.specs.Ids.{elements}
use Rattle.rules_tables.specs.Judge.{shape_of}
use Rattle.rules_store.specs.Word.{next_due}
use Rattle.rules_store.specs.Due.{earliest}
use Rattle.rules_store.proofs.laws.WellFormed.{well_formed_next}
use Rattle.rules_store.proofs.laws.PutDue.{formed_keeps}
use Rattle.rules_calls.specs.Calls.{beyond_due}
use Rattle.rules_calls.proofs.laws.Due.{beyond_stored}
use Rattle.rules_calls.specs.Public.{LoadCall, AdvanceCall, ArrivalCall, RunCall}
use Rattle.rules_calls.specs.declared.Outcome.TheVariants.{Done, Ran}
use Rattle.rules_log.specs.Log.{Log}
use Rattle.rules_log.specs.Sequence.{Since}
use Rattle.laws_calls.proofs.laws.Kept.{load_formed, advance_formed, arrival_formed, run_formed}
use Rattle.laws_calls.proofs.laws.Lawfully.{lawfully}

-- ---- after any sequence of calls since an accepted load
module _ (T s : List ℕ) (l : Log) (c : Since T s l) where
  pub next_due_lem : next_due s ≡ earliest s (elements (shape_of T))
  next_due_lem = (lawfully T s l c).holds.formed.parts.next

  -- an advance to t is refused by 8 where something is due, and the stored time is before t
  pub next_refuses : (t : ℕ) → beyond_due (shape_of T) s t ≡ both (not (eqb (next_due s).due 0)) (ltb (next_due s).time t)
  next_refuses t = beyond_stored (shape_of T) s (formed_keeps T (shape_of T) s (lawfully T s l c).holds.formed) t

-- ---- after any one call that is not refused, whatever store it was made on
module _ (T s s' : List ℕ) where
  pub load_next : LoadCall T s (Ok Done) s' → next_due s' ≡ earliest s' (elements (shape_of T))
  load_next c = well_formed_next T (shape_of T) s' (load_formed T s s' c)

  pub advance_next : (t : ℕ) → AdvanceCall T s t (Ok Done) s' → next_due s' ≡ earliest s' (elements (shape_of T))
  advance_next t c = well_formed_next T (shape_of T) s' (advance_formed T s s' t c)

  pub arrival_next : (o birth : ℕ) (values : List ℕ) → ArrivalCall T s o birth values (Ok Done) s' → next_due s' ≡ earliest s' (elements (shape_of T))
  arrival_next o birth values c = well_formed_next T (shape_of T) s' (arrival_formed T s s' o birth values c)

  pub run_next : (budget : ℕ) (out out' : List ℕ) (m b n u : ℕ) → RunCall T s budget out (Ok (Ran m b n u)) s' out' → next_due s' ≡ earliest s' (elements (shape_of T))
  run_next budget out out' m b n u c = well_formed_next T (shape_of T) s' (run_formed T s s' budget out out' m b n u c)
