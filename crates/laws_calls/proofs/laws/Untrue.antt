-- "Word 11 counts untrue steps since load and stops at 4,294,967,295. The answer of run tells how many it made.": load zeroes the word, advance and arrival leave
-- it, and a run adds what it tells, up to the word's end. A refused call does neither.
use Rattle.std.specs.Prelude.{◌≡◌, refl, List, ℕ, ◌+◌, ◌≤◌, ◌<◌, min, eqb, length, Ok}
use Rattle.std.proofs.Math.Path.{ap}
use Rattle.std.proofs.Common.{◌∙◌, arith}
use Rattle.std.proofs.Math.Logic.{⊎_elim}
use Rattle.rules_walks.specs.Choose.{choose}
use Rattle.rules_walks.proofs.laws.Choose.{by_choose}
use Rattle.rules_tables.specs.declared.Shape.{Shape}
use Rattle.rules_tables.specs.Judge.{Verdict, accepted, refused, judge, shape_of}
use Rattle.rules_tables.proofs.laws.Accepted.{accepted_means}
use Rattle.rules_tables.proofs.laws.Lawful.{lawful}
use Rattle.rules_store.specs.Word.{count_end, now_of, untrue}
use Rattle.rules_calls.specs.Calls.{advanced, arrived}
use Rattle.rules_calls.specs.Run.{after, untrue_in}
use Rattle.rules_calls.specs.Answer.{moves_of, untrue_of, kept_by, Answer}
use Rattle.rules_calls.specs.Refusals.{load_refusal, store_refusal, advance_refusal, arrival_refusal}
use Rattle.rules_calls.specs.Public.{run_moves, count_by, LoadCall, AdvanceCall, ArrivalCall, RunCall}
use Rattle.rules_calls.specs.declared.Outcome.TheVariants.{Done}
use Rattle.laws_kept.proofs.laws.Loading.{loaded_untrue}
use Rattle.laws_log.proofs.laws.Untrue.{after_counts, advanced_untrue, arrived_untrue}
use Rattle.laws_calls.proofs.laws.Refusals.{done_means, count_cases, load_none, store_formed}

module _ (T s s' : List ℕ) where
  abbrev S : Shape
  S = shape_of T

  pub load_untrue : LoadCall T s (Ok Done) s' → untrue s' ≡ 0
  unfolding choose
  load_untrue c =
      let w = done_means (judge T) (load_refusal S s) c.answer in
      ap untrue c.store ∙ rw (w.table, w.call) (loaded_untrue T S s (load_none S s w.call))

  -- a call leaves the word where what it does leaves it
  left : (v : Verdict) → judge T ≡ v → (q : ℕ) (x : List ℕ) → (judge T ≡ accepted → untrue x ≡ untrue s) → untrue (kept_by v q s x) ≡ untrue s
  left (refused p f) e q x h = refl
  left accepted e q x h = by_choose (λ (y : List ℕ). untrue y ≡ untrue s) (eqb q 0) x s (λ _. h e) (λ _. refl)

  pub advance_untrue : (t : ℕ) (r : Answer) → AdvanceCall T s t r s' → untrue s' ≡ untrue s
  advance_untrue t r c =
      ap untrue c.store ∙ left (judge T) refl (advance_refusal T S s t) (advanced T S t s) (λ v. advanced_untrue T S (lawful T (accepted_means T v)) t s)

  pub arrival_untrue : (o birth : ℕ) (values : List ℕ) (r : Answer) → ArrivalCall T s o birth values r s' → untrue s' ≡ untrue s
  arrival_untrue o birth values r c =
      ap untrue c.store
      ∙ left (judge T) refl (arrival_refusal T S s o birth values) (arrived T S o birth values s) (λ v. arrived_untrue T S (lawful T (accepted_means T v)) o birth values s)

  -- a run, with a trace or without: m is how many moves it makes where nothing refuses it
  module _ (r : Answer) (m : ℕ) (made : moves_of r ≡ count_by (judge T) (store_refusal T S s) m) (store : s' ≡ after T S (now_of s) (moves_of r) s)
      (told : untrue_of r ≡ untrue_in T S (now_of s) (moves_of r) s) (low : untrue s ≤ count_end) where
    counts : untrue (after T S (now_of s) (moves_of r) s) ≡ min (untrue s + untrue_in T S (now_of s) (moves_of r) s) count_end
    unfolding after untrue_in
    counts =
        ⊎_elim (λ w. after_counts T S (lawful T (accepted_means T w.0)) s (store_formed T S s w.1) low (moves_of r))
        (λ z. let none : moves_of r ≡ 0 = made ∙ z in rw none (omega arith)) (count_cases (judge T) (store_refusal T S s) m)

    pub told_counts : untrue s' ≡ min (untrue s + untrue_of r) count_end
    told_counts = rw (store, told) counts

    -- what is told is the difference where the word has not stopped
    pub told_difference : untrue s' < count_end → untrue s + untrue_of r ≡ untrue s'
    told_difference under = let e = told_counts in omega arith

  module _ (budget : ℕ) (out out' : List ℕ) (r : Answer) (c : RunCall T s budget out r s' out') where
    pub run_untrue : untrue s ≤ count_end → untrue s' ≡ min (untrue s + untrue_of r) count_end
    run_untrue = told_counts r (run_moves T s budget (length out)) c.tells.moves_are c.store c.tells.untrue_are

    pub run_difference : untrue s ≤ count_end → untrue s' < count_end → untrue s + untrue_of r ≡ untrue s'
    run_difference = told_difference r (run_moves T s budget (length out)) c.tells.moves_are c.store c.tells.untrue_are
