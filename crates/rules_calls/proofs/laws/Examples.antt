-- Computed examples: what no law says of the rules of the calls, so that code and definition cannot change it together.
use Rattle.std.specs.Prelude.{◌≡◌, true, false, List, [], ◌∷◌, map, ℕ, eqb, ltb, length, set, replicate, Ok, Err}
use Rattle.std.proofs.Math.Path.{refl}
use Rattle.rules_walks.specs.All.{all_to}
use Rattle.rules_walks.specs.Choose.{choose}
use Rattle.rules_walks.specs.First.{first_from}
use Rattle.rules_walks.specs.Walk.{up_to}
use Rattle.rules_tables.specs.declared.Shape.{Shape}
use Rattle.rules_tables.specs.Ids.{inputs, outputs, variables}
use Rattle.rules_tables.specs.Judge.{refusal}
use Rattle.rules_store.specs.Layout.{need, element_at}
use Rattle.rules_store.specs.Word.{now_of, put_now, running_element, current_event, running_of, spare_at, spare_word, due_flag, due_time, set_due, next_due, put_next}
use Rattle.rules_store.specs.Due.{due_at, nothing_due, due_then, sooner, earliest, put_due}
use Rattle.rules_store.specs.WellFormed.{spare_ok, is_next, next_ok, rest_ok, running_ok, parts_ok, well_formed}
use Rattle.rules_moves.specs.Take.{fire_found}
use Rattle.rules_calls.specs.Calls.{expired, expire, advanced, wrong_time, due_before, of_source, value_count}
use Rattle.rules_calls.specs.Exports.{packed}
use Rattle.rules_calls.specs.Refusals.{load_refusal, store_refusal, event_refusal}
use Rattle.rules_calls.specs.Run.{another, room_for, stop_after}
use Rattle.rules_calls.specs.declared.Outcome.TheVariants.{Ran}

-- a network of so many elements and of nothing else
abbrev elements_only : ℕ → Shape
elements_only n =
    record {
      elements_end = n;
      inputs_end = n;
      outputs_end = n;
      variables_end = n;
      associations_end = n;
      states_end = n;
      transitions_end = n;
      actions_end = n;
      steps_end = n;
      connections_end = n;
      links_end = n;
    }

-- ---- the refusals of a store: 5 "store shorter than its need", 6 "store not well formed"
pub store_refused : map (store_refusal [] (elements_only 0)) (replicate 15 0 ∷ set (replicate 16 0) 9 1 ∷ replicate 16 0 ∷ []) ≡ 5 ∷ 6 ∷ 0 ∷ []
unfolding store_refusal well_formed spare_ok next_ok is_next earliest next_due running_ok rest_ok parts_ok all_to now_of running_element current_event running_of spare_word spare_at need inputs variables
store_refused = refl

-- a load is not refused for what the store has
pub load_refused : map (load_refusal (elements_only 0)) (replicate 15 0 ∷ set (replicate 16 0) 9 1 ∷ []) ≡ 5 ∷ 0 ∷ []
unfolding load_refusal need inputs variables
load_refused = refl

-- ---- 7 "advance to a time before now or above the largest": now is 5
pub wrong_times : map (wrong_time (5 ∷ [])) (4 ∷ 5 ∷ 2147483647 ∷ 2147483648 ∷ []) ≡ true ∷ false ∷ false ∷ true ∷ []
unfolding wrong_time now_of
wrong_times = refl

-- ---- 8 "advance beyond the due time of a delay", and each "delay due at t": the one element is due at 20
abbrev waits : List ℕ
waits = set (set (set (set (replicate 19 0) 9 1) 10 20) 17 1) 18 20

pub due_before_lem : map (λ (t : ℕ). due_before waits t 0) (19 ∷ 20 ∷ 21 ∷ []) ≡ false ∷ false ∷ true ∷ []
unfolding due_before due_flag due_time element_at
due_before_lem = refl

-- "Advance to t sets now, then fires .. each delay due at t and clears it."
pub not_yet : advanced [] (elements_only 1) 19 waits ≡ set waits 0 19
unfolding advanced expire due_at up_to choose put_now due_flag due_time element_at
not_yet = refl

pub expires : advanced [] (elements_only 1) 20 waits ≡ set (replicate 19 0) 0 20
unfolding advanced expire expired due_at up_to choose put_now due_flag due_time put_due set_due put_next earliest sooner element_at fire_found first_from outputs
expires = refl

-- the next due time with it: of three elements, two due at 20 and one at 30 or not at all; then of one due at 0 at now 0, which an advance to 0 fires
abbrev dues : (g u : ℕ) → List ℕ
dues g u = put_due (elements_only 3) 0 1 20 (put_due (elements_only 3) 1 g u (put_due (elements_only 3) 2 1 20 (replicate 25 0)))

pub advance_keeps : map (λ (s : List ℕ). next_due (advanced [] (elements_only 3) 20 s)) (dues 1 30 ∷ dues 0 0 ∷ []) ≡ due_then 30 ∷ nothing_due ∷ []
unfolding advanced expire expired due_at up_to choose put_now next_due due_flag due_time put_due set_due put_next earliest sooner element_at fire_found first_from outputs
advance_keeps = refl

abbrev at_once : List ℕ
at_once = put_due (elements_only 1) 0 1 0 (replicate 19 0)

pub due_at_nought : map next_due (at_once ∷ advanced [] (elements_only 1) 0 at_once ∷ []) ≡ due_then 0 ∷ nothing_due ∷ []
unfolding advanced expire expired due_at up_to choose put_now next_due due_flag due_time put_due set_due put_next earliest sooner element_at fire_found first_from outputs
due_at_nought = refl

-- ---- 9 "arrival names no event output of a source", 10 "birth above now", 11 "number of values differs from the event's associations"; the first that holds
module _ (T : List ℕ) (S : Shape) (s : List ℕ) (o birth : ℕ) (values : List ℕ) where
  pub no_source : of_source T S o ≡ false → event_refusal T S s o birth values ≡ 9
  unfolding event_refusal
  no_source e = rw e refl

  pub born_late : of_source T S o ≡ true → ltb (now_of s) birth ≡ true → event_refusal T S s o birth values ≡ 10
  unfolding event_refusal
  born_late e f = rw (e, f) refl

  pub miscounted : of_source T S o ≡ true → ltb (now_of s) birth ≡ false → eqb (length values) (value_count T S o) ≡ false → event_refusal T S s o birth values ≡ 11
  unfolding event_refusal
  miscounted e f g = rw (e, f, g) refl

  pub arrival_done : of_source T S o ≡ true → ltb (now_of s) birth ≡ false → eqb (length values) (value_count T S o) ≡ true → event_refusal T S s o birth values ≡ 0
  unfolding event_refusal
  arrival_done e f g = rw (e, f, g) refl

-- ---- "no move exists (1), else the next move's record has no room (3), else the budget is used (2)"
module _ (T : List ℕ) (S : Shape) (time room : ℕ) (s : List ℕ) (n : ℕ) where
  pub no_move : another T S time s n ≡ false → stop_after T S time room s n ≡ 1
  unfolding stop_after
  no_move e = rw e refl

  pub no_room : another T S time s n ≡ true → room_for T S time room s n ≡ false → stop_after T S time room s n ≡ 3
  unfolding stop_after
  no_room e f = rw (e, f) refl

  pub no_budget : another T S time s n ≡ true → room_for T S time room s n ≡ true → stop_after T S time room s n ≡ 2
  unfolding stop_after
  no_budget e f = rw (e, f) refl

-- ---- an answer as one number: refusal 4 at frame 19; a run is not refused
pub packed_answers : map packed (Err (refusal 4 19) ∷ Ok (Ran 7 20 3 5) ∷ []) ≡ 262163 ∷ 0 ∷ []
packed_answers = refl
