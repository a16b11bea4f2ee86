-- What frames that keep the network rules have apart, and what parts their elements have: the parts of refusal 4's tests, each as a fact.
use Rattle.std.specs.Prelude.{◌≡◌, List, true, false, not, ℕ, zero, suc, ◌≤◌, ◌<◌, ltb}
use Rattle.std.proofs.Math.Path.{refl}
use Rattle.std.proofs.Common.{sym, ◌∙◌, ⊎_elim, arith, add-one}
use Rattle.std.proofs.Math.Dec.{eqb}
use borrow.Author.Tests.{ltb-true, eqb-true, eq-eqb}
use Rattle.rules_walks.specs.Pick.{both}
use Rattle.rules_walks.proofs.laws.Pick.{both_left, both3, both5, either_else, not_back, clash, test_cases, tri}
use Rattle.rules_walks.specs.All.{any_to}
use Rattle.rules_walks.proofs.laws.All.{any_at}
use Rattle.rules_walks.specs.Count.{count_if}
use Rattle.rules_walks.proofs.laws.Count.{count_none, count_hit, count_miss, count_same}
use Rattle.rules_tables.specs.Kind.{element, event_input, association, event_connection, data_connection}
use Rattle.rules_tables.specs.Frame.{kind_at, flag_at, field_at, frames_of}
use Rattle.rules_tables.specs.Place.{count_to, place}
use Rattle.rules_tables.proofs.laws.Places.{place_found}
use Rattle.rules_tables.specs.Fresh.{same_field, same_flag, alike, shares, fresh, same_event, eight_at_most}
use Rattle.rules_tables.specs.Shapes.{event_inputs, event_outputs, inputs, outputs, internals, unknowns, source_shape, sink_shape, interface_shape, delay_shape, shape_as, shape_ok}
use Rattle.rules_tables.specs.Network.{rules_ok}
use Rattle.rules_tables.specs.Accepted.{OfSort, Interface, Delay, Source, Sink}

module _ (T : List ℕ) where
  -- the rules of a frame, each for itself
  record Ruled (f : ℕ) : Type 0 where
    priority : fresh element T f ≡ true
    shape : shape_ok T f ≡ true
    local_priority : fresh event_input T f ≡ true
    pair : fresh association T f ≡ true
    few : eight_at_most T f ≡ true
    connection : fresh event_connection T f ≡ true
    destination : fresh data_connection T f ≡ true

  ruled : (f : ℕ) → rules_ok T f ≡ true → Ruled f
  unfolding rules_ok
  ruled f h =
      let x = fresh event_connection T f in
      let y = fresh data_connection T f in
      let w = both5 (fresh element T f) (shape_ok T f) (fresh event_input T f) (fresh association T f) (both (eight_at_most T f) (both x y)) h in
      let v = both3 (eight_at_most T f) x y w.4 in
      record { priority = w.0; shape = w.1; local_priority = w.2; pair = w.3; few = v.0; connection = v.1; destination = v.2 }

  -- ---- what no two frames of a kind share
  fresh_apart : (k f g : ℕ) → g < f → kind_at T f ≡ k → kind_at T g ≡ k → fresh k T f ≡ true → alike k T f g ≡ false
  unfolding fresh shares
  fresh_apart k f g l kf kg h =
      let e = either_else (not (eqb (kind_at T f) k)) (not (any_to (shares k T f) f)) h (rw (eq-eqb (kind_at T f) k kf) refl) in
      rw (eq-eqb (kind_at T g) k kg) at (any_at (shares k T f) f g l (not_back (any_to (shares k T f) f) e))

  alone : (k f g : ℕ) → kind_at T f ≡ k → kind_at T g ≡ k → fresh k T f ≡ true → fresh k T g ≡ true → alike k T f g ≡ true → alike k T g f ≡ true → f ≡ g
  alone k f g kf kg hf hg p q =
      ⊎_elim (λ (l : f < g). clash (sym (fresh_apart k g f l kg kf hg) ∙ q))
      (⊎_elim (λ (e : f ≡ g). e) (λ (l : g < f). clash (sym (fresh_apart k f g l kf kg hf) ∙ p))) (tri f g)

  module _ (f g : ℕ) (rf : rules_ok T f ≡ true) (rg : rules_ok T g ≡ true) where
    pub priorities_differ : kind_at T f ≡ element → kind_at T g ≡ element → field_at T f 0 ≡ field_at T g 0 → f ≡ g
    unfolding alike
    priorities_differ kf kg e =
        alone element f g kf kg (ruled f rf).priority (ruled g rg).priority
        (eq-eqb (field_at T g 0) (field_at T f 0) (sym e)) (eq-eqb (field_at T f 0) (field_at T g 0) e)

    pub local_priorities_differ : kind_at T f ≡ event_input → kind_at T g ≡ event_input → field_at T f 0 ≡ field_at T g 0 → flag_at T f ≡ flag_at T g → f ≡ g
    unfolding alike
    local_priorities_differ kf kg e p =
        alone event_input f g kf kg (ruled f rf).local_priority (ruled g rg).local_priority
        (rw (eq-eqb (field_at T g 0) (field_at T f 0) (sym e), eq-eqb (flag_at T g) (flag_at T f) (sym p)))
        (rw (eq-eqb (field_at T f 0) (field_at T g 0) e, eq-eqb (flag_at T f) (flag_at T g) p))

    pub associations_differ : kind_at T f ≡ association → kind_at T g ≡ association → flag_at T f ≡ flag_at T g → field_at T f 0 ≡ field_at T g 0 → field_at T f 1 ≡ field_at T g 1 → f ≡ g
    unfolding alike
    associations_differ kf kg p a b =
        alone association f g kf kg (ruled f rf).pair (ruled g rg).pair
        (rw (eq-eqb (flag_at T g) (flag_at T f) (sym p), eq-eqb (field_at T g 0) (field_at T f 0) (sym a), eq-eqb (field_at T g 1) (field_at T f 1) (sym b)))
        (rw (eq-eqb (flag_at T f) (flag_at T g) p, eq-eqb (field_at T f 0) (field_at T g 0) a, eq-eqb (field_at T f 1) (field_at T g 1) b))

    pub connections_differ : kind_at T f ≡ event_connection → kind_at T g ≡ event_connection → field_at T f 0 ≡ field_at T g 0 → field_at T f 1 ≡ field_at T g 1 → f ≡ g
    unfolding alike
    connections_differ kf kg a b =
        alone event_connection f g kf kg (ruled f rf).connection (ruled g rg).connection
        (rw (eq-eqb (field_at T g 0) (field_at T f 0) (sym a), eq-eqb (field_at T g 1) (field_at T f 1) (sym b)))
        (rw (eq-eqb (field_at T f 0) (field_at T g 0) a, eq-eqb (field_at T f 1) (field_at T g 1) b))

    pub destinations_differ : kind_at T f ≡ data_connection → kind_at T g ≡ data_connection → field_at T f 1 ≡ field_at T g 1 → f ≡ g
    unfolding alike
    destinations_differ kf kg e =
        alone data_connection f g kf kg (ruled f rf).destination (ruled g rg).destination
        (eq-eqb (field_at T g 1) (field_at T f 1) (sym e)) (eq-eqb (field_at T f 1) (field_at T g 1) e)

  -- ---- the variables of an event

  -- associations of one event have the same associations of their event
  same_events : (f g i : ℕ) → same_event T f g ≡ true → same_event T f i ≡ same_event T g i
  unfolding same_event
  same_events f g i h =
      let w = both3 (eqb (kind_at T g) association) (same_flag T f g) (same_field T f g 0) h in
      rw (eqb-true (flag_at T g) (flag_at T f) w.1, eqb-true (field_at T g 0) (field_at T f 0) w.2) refl

  joins_event : (f g : ℕ) → same_event T f g ≡ true → kind_at T g ≡ association
  unfolding same_event
  joins_event f g h = eqb-true _ _ (both_left (eqb (kind_at T g) association) (both (same_flag T f g) (same_field T f g 0)) h)

  before_it : (g : ℕ) → rules_ok T g ≡ true → kind_at T g ≡ association → count_if (same_event T g) g < 8
  unfolding eight_at_most
  before_it g h k =
      ltb-true _ _
      (either_else (not (eqb (kind_at T g) association)) (ltb (count_if (same_event T g) g) 8) (ruled g h).few (rw k refl))

  -- the last association of the event has at most seven before it
  pub eight_of : (f n : ℕ) → ((i : ℕ) → i < n → rules_ok T i ≡ true) → count_if (same_event T f) n ≤ 8
  eight_of f zero h = rw (count_none (same_event T f)) (omega arith)
  eight_of f (suc n) h =
      rw (← add-one n)
      (⊎_elim
      (λ (e : same_event T f n ≡ true).
      let s = count_same (same_event T f) (same_event T n) n (λ i _. same_events f n i e) in
      let l = before_it n (h n (omega arith)) (joins_event f n e) in
      rw (count_hit (same_event T f) n e) (omega arith))
      (λ (e : same_event T f n ≡ false). rw (count_miss (same_event T f) n e) (eight_of f n (λ i l. h i (omega arith))))
      (test_cases (same_event T f n)))

  -- ---- the shapes of elements
  module _ (el sort : ℕ) (w : OfSort T el sort) (h : (f : ℕ) → f < frames_of T → rules_ok T f ≡ true) where
    shaped : shape_as sort T el ≡ true
    unfolding shape_ok
    shaped =
        let p = place T element el in
        let v = place_found T element el w.exists in
        let s = (ruled p (h p v.in_table)).shape in
        let e = either_else (not (eqb (kind_at T p) element)) (shape_as (flag_at T p) T (count_to T element p)) s (rw v.kind refl) in
        rw (w.is, v.nth) at e

  module _ (h : (f : ℕ) → f < frames_of T → rules_ok T f ≡ true) (el : ℕ) where
    pub interface_shaped : OfSort T el 1 → Interface T el
    unfolding shape_as interface_shape
    interface_shaped w =
        let v =
        both3 (eqb (event_inputs T el) (event_outputs T el)) (eqb (inputs T el) (outputs T el)) (eqb (internals T el) 0) (shaped el 1 w h)
        in
        record { events = eqb-true _ _ v.0; variables = eqb-true _ _ v.1; no_internals = eqb-true _ _ v.2 }

    pub delay_shaped : OfSort T el 2 → Delay T el
    unfolding shape_as delay_shape
    delay_shaped w =
        let a = eqb (internals T el) 0 in
        let b = eqb (unknowns T el) 0 in
        let v = both5 (eqb (event_inputs T el) 2) (eqb (event_outputs T el) 1) (eqb (inputs T el) 1) (eqb (outputs T el) 0) (both a b) (shaped el 2 w h) in
        record {
          start_stop = eqb-true _ _ v.0;
          output = eqb-true _ _ v.1;
          dt = eqb-true _ _ v.2;
          no_outputs = eqb-true _ _ v.3;
          no_internals = eqb-true _ _ (both_left a b v.4);
        }

    pub source_shaped : OfSort T el 3 → Source T el
    unfolding shape_as source_shape
    source_shaped w =
        let a = eqb (internals T el) 0 in
        let b = eqb (unknowns T el) 0 in
        let v = both3 (eqb (event_inputs T el) 0) (eqb (inputs T el) 0) (both a b) (shaped el 3 w h) in
        record { no_event_inputs = eqb-true _ _ v.0; no_inputs = eqb-true _ _ v.1; no_internals = eqb-true _ _ (both_left a b v.2) }

    pub sink_shaped : OfSort T el 4 → Sink T el
    unfolding shape_as sink_shape
    sink_shaped w =
        let a = eqb (internals T el) 0 in
        let b = eqb (unknowns T el) 0 in
        let v = both3 (eqb (event_outputs T el) 0) (eqb (outputs T el) 0) (both a b) (shaped el 4 w h) in
        record { no_event_outputs = eqb-true _ _ v.0; no_outputs = eqb-true _ _ v.1; no_internals = eqb-true _ _ (both_left a b v.2) }
