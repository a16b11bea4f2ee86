-- An accepted table keeps every rule of document 01.
use Rattle.std.specs.Prelude.{◌≡◌, refl, List, Bool, true, false, not, ℕ, zero, suc, ◌+◌, ◌%◌, ◌≤◌, ◌<◌, ltb, leb, length}
use Rattle.std.proofs.Common.{◌∙◌, arith}
use Rattle.std.proofs.Math.Dec.{eqb}
use borrow.Author.Tests.{leb-true, eqb-true, eqb-false}
use Rattle.rules_walks.specs.Pick.{pick}
use Rattle.rules_walks.proofs.laws.Pick.{both3, not_back}
use Rattle.rules_walks.proofs.laws.All.{all_intro}
use Rattle.rules_walks.proofs.laws.Count.{count_none}
use Rattle.rules_tables.specs.Kind.{element}
use Rattle.rules_tables.specs.Frame.{kind_at, frames_of}
use Rattle.rules_tables.specs.Place.{count_to, count_of, start_of, place, order_at, sorted_of}
use Rattle.rules_tables.specs.Places.{Found}
use Rattle.rules_tables.proofs.laws.Places.{below_next, below_all, below_rest, place_found, place_start}
use Rattle.rules_tables.specs.Form.{form_of, form_ok}
use Rattle.rules_tables.specs.Formed.{Formed}
use Rattle.rules_tables.proofs.laws.Formed.{formed, element_own}
use Rattle.rules_tables.specs.Reference.{refers_ok}
use Rattle.rules_tables.specs.Network.{rules_ok}
use Rattle.rules_tables.specs.Judge.{Verdict, accepted, refused, length_ok, fault_at, scan_to, judge}
use Rattle.rules_tables.proofs.laws.Judge.{scan_at}
use Rattle.rules_tables.specs.Accepted.{Accepted}
use Rattle.rules_tables.proofs.laws.Referring.{initial, input_of, output_of, variable_of, input_joined, output_joined, no_interface, state_of, transition_of, action_of, step_of, connected, linked}
use Rattle.rules_tables.proofs.laws.Ruled.{priorities_differ, local_priorities_differ, associations_differ, connections_differ, destinations_differ, eight_of, interface_shaped, delay_shaped, source_shaped, sink_shaped}

-- no fault: the three tests passed
no_fault : (a b c : Bool) → ◌≡◌ {A = ℕ} (pick a (pick b (pick c 0 4) 3) 2) 0 → (a ≡ true) × (b ≡ true) × (c ≡ true)
no_fault true true true e = (refl, refl, refl)
no_fault true true false e = absurd (omega arith)
no_fault true false c e = absurd (omega arith)
no_fault false b c e = absurd (omega arith)

-- not refused for its length
chosen : (b : Bool) (v : Verdict) → pick b v (refused 1 0) ≡ accepted → (b ≡ true) × (v ≡ accepted)
chosen true v e = (refl, e)
chosen false v e = absurd (let z : ◌≡◌ {A = ℕ} 0 1 = cc in omega arith)

module _ (T : List ℕ) (h : judge T ≡ accepted) where
  parts : (length_ok T ≡ true) × (scan_to T (frames_of T) ≡ accepted)
  unfolding judge
  parts = chosen (length_ok T) (scan_to T (frames_of T)) h

  lengths : (length T ≡ 0 → ⊥) × (length T % 12 ≡ 0) × (length T ≤ 49152)
  unfolding length_ok
  lengths =
      let a = eqb (length T) 0 in
      let w = both3 (not a) (eqb (length T % 12) 0) (leb (length T) 49152) parts.0 in
      (eqb-false _ _ (not_back a w.0), eqb-true _ _ w.1, leb-true _ _ w.2)

  module _ (f : ℕ) (l : f < frames_of T) where
    passed : (form_ok T f ≡ true) × (refers_ok T f ≡ true) × (rules_ok T f ≡ true)
    unfolding fault_at
    passed = no_fault (form_ok T f) (refers_ok T f) (rules_ok T f) (scan_at T (frames_of T) f l parts.1)

    has_form : form_ok T f ≡ true
    has_form = passed.0

    refers : refers_ok T f ≡ true
    refers = passed.1

    rules : rules_ok T f ≡ true
    rules = passed.2

    formed_at : Formed T f
    formed_at = formed T f has_form

  ordered : sorted_of T ≡ true
  ordered = all_intro (order_at T) (frames_of T) (λ f l. (formed_at f l).order)

  -- an element's id is its frame
  own_id : (f : ℕ) → f < frames_of T → kind_at T f ≡ element → count_to T element f ≡ f
  own_id f l k = element_own T (frames_of T) f (all_intro (form_ok T) (frames_of T) has_form) l k

  -- the last frame of its kind is not past the limit
  limits : (k n : ℕ) → count_of T k ≡ n → n ≤ (form_of k).most
  limits k zero e = omega arith
  limits k (suc n) e =
      let w = place_found T k n (omega arith) in
      let r = rw (w.kind, w.nth) at (formed_at (place T k n) w.in_table).room in
      omega arith

  -- no kind is below 1
  first_of_all : start_of T 1 ≡ 0
  first_of_all = below_rest T 1 0 (frames_of T) (omega arith) (λ f _ l. (formed_at f l).low) ∙ count_none (λ f. ltb (kind_at T f) 1)

  stands : (k id : ℕ) → id < count_of T k → Found T k id (frames_of T) (start_of T k + id)
  stands k id l = rw (place_start T k id ordered l) at (place_found T k id l)

  pub accepted_means : Accepted T
  accepted_means =
      record {
        size = omega (arith, lengths.1);
        some = omega (arith, lengths.0, lengths.1);
        most = omega (arith, lengths.2);
        form = formed_at;
        sorted = ordered;
        limit = λ k a b. limits k (count_of T k) refl;
        at = λ k id l. place_start T k id ordered l;
        found = stands;
        next = λ k. below_next T k (frames_of T);
        first = first_of_all;
        total = below_all T 12 (frames_of T) (λ f l. let w = formed_at f l in omega arith);
        initial_state = λ f l k e. rw (own_id f l k) at (initial T f k (refers f l) e);
        event_input_rule = λ f l k. input_of T f k (refers f l);
        event_output_rule = λ f l k. output_of T f k (refers f l);
        variable_of = λ f l k. variable_of T f k (refers f l);
        input_association = λ f l k. input_joined T f k (refers f l);
        output_association = λ f l k. output_joined T f k (refers f l);
        not_interface = λ f l k. no_interface T f k (refers f l);
        state_of = λ f l k. state_of T f k (refers f l);
        transition_of = λ f l k. transition_of T f k (refers f l);
        action_of = λ f l k. action_of T f k (formed_at f l).body.steps (refers f l);
        step_of = λ f l k. step_of T f k (refers f l);
        event_connection_rule = λ f l k. connected T f k (refers f l);
        data_connection_rule = λ f l k. linked T f k (refers f l);
        priorities = λ f g a b. priorities_differ T f g (rules f a) (rules g b);
        local_priorities = λ f g a b. local_priorities_differ T f g (rules f a) (rules g b);
        association_pairs = λ f g a b. associations_differ T f g (rules f a) (rules g b);
        connection_pairs = λ f g a b. connections_differ T f g (rules f a) (rules g b);
        destinations = λ f g a b. destinations_differ T f g (rules f a) (rules g b);
        eight = λ f l k. eight_of T f (frames_of T) rules;
        interface = interface_shaped T rules;
        delay = delay_shaped T rules;
        source = source_shaped T rules;
        sink = sink_shaped T rules;
      }
