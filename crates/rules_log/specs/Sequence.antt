-- Any sequence of public calls on one table since an accepted load: "load accepted first; then any mixture of advance, arrival and run with any arguments,
-- refused ones included". Each call is given by the statement that its code is proved to meet, so a sequence of public calls is such a sequence; the log says
-- what was taken and fired.
use Rattle.std.specs.Prelude.{ℕ, List, eqb, length, Ok}
use Rattle.rules_walks.specs.Choose.{choose}
use Rattle.rules_tables.specs.Judge.{shape_of}
use Rattle.rules_store.specs.Word.{now_of}
use Rattle.rules_calls.specs.Refusals.{store_refusal, advance_refusal, arrival_refusal}
use Rattle.rules_calls.specs.Public.{run_moves, LoadCall, AdvanceCall, ArrivalCall, RunCall}
use Rattle.rules_calls.specs.Answer.{Answer}
use Rattle.rules_calls.specs.declared.Outcome.TheVariants.{Done}
use Rattle.rules_log.specs.Log.{Log, empty, run_log, advance_log, arrival_log}

-- a call that is refused takes and fires nothing; q is the refusal, 0 for none
abbrev pub unless : ℕ → Log → Log → Log
unless q l' l = choose (eqb q 0) l' l

abbrev pub log_advance : List ℕ → List ℕ → ℕ → Log → Log
log_advance T s t l = unless (advance_refusal T (shape_of T) s t) (advance_log T (shape_of T) t s l) l

abbrev pub log_arrival : List ℕ → List ℕ → ℕ → ℕ → List ℕ → Log → Log
log_arrival T s o birth values l = unless (arrival_refusal T (shape_of T) s o birth values) (arrival_log T (shape_of T) o birth values s l) l

abbrev pub log_run : List ℕ → List ℕ → ℕ → List ℕ → Log → Log
log_run T s budget out l = unless (store_refusal T (shape_of T) s) (run_log T (shape_of T) (now_of s) (run_moves T s budget (length out)) s l) l

-- the store and the log after such calls
pub data Since (T : List ℕ) : List ℕ → Log → Type 0 where
  loads : (s s' : List ℕ) → LoadCall T s (Ok Done) s' → Since T s' empty
  advances : (s s' : List ℕ) (l : Log) (t : ℕ) (r : Answer) → Since T s l → AdvanceCall T s t r s' → Since T s' (log_advance T s t l)
  arrives : (s s' : List ℕ) (l : Log) (o birth : ℕ) (values : List ℕ) (r : Answer) → Since T s l → ArrivalCall T s o birth values r s' → Since T s' (log_arrival T s o birth values l)
  runs : (s s' out out' : List ℕ) (l : Log) (budget : ℕ) (r : Answer) → Since T s l → RunCall T s budget out r s' out' → Since T s' (log_run T s budget out l)
