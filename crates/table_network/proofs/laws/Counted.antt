-- How the counts of marks grow, and what they tell of the variables of an event.
use Rattle.std.specs.Prelude.{◌≡◌, refl, List, Bool, true, false, not, ℕ, ◌+◌, ◌-◌, ◌≤◌, ◌<◌, leb, length, get_or, set}
use Rattle.std.proofs.Math.Path.{sym}
use Rattle.std.proofs.Common.{ap, ◌∙◌, arith, length-set, get_or-set_same, get_or-set_other}
use Rattle.std.proofs.Math.Logic.{⊎_elim}
use Rattle.std.proofs.Math.Dec.{eqb, ltb}
use borrow.Author.Tests.{ltb-true, ltb-false, lt-leb, le-leb, eqb-true, eqb-false, eq-eqb, ne_eqb}
use Rattle.rules_walks.specs.Pick.{pick, both}
use Rattle.rules_walks.proofs.laws.Pick.{same_test, test_cases}
use Rattle.rules_walks.proofs.laws.All.{all_at}
use Rattle.rules_walks.specs.Count.{count_if}
use Rattle.rules_walks.proofs.laws.Count.{count_none, count_next, count_rest, count_same, count_le}
use Rattle.rules_tables.specs.Kind.{event_input, event_output, association}
use Rattle.rules_tables.specs.Frame.{kind_at, flag_at, field_at}
use Rattle.rules_tables.specs.Place.{count_of}
use Rattle.rules_tables.specs.Form.{form_ok}
use Rattle.rules_tables.proofs.laws.Formed.{formed}
use Rattle.rules_tables.specs.Reference.{refers_ok}
use Rattle.rules_tables.proofs.laws.Referring.{input_joined, output_joined}
use Rattle.rules_tables.specs.Fresh.{same_event, eight_at_most}
use Rattle.numbers_bits.specs.Bit.{Clear}
use Rattle.table_network.specs.Counted.{Counted}
use Rattle.table_network.specs.Keys.{slot_of, slotted, Slotting}
use Rattle.table_network.specs.Known.{Known}
use Rattle.table_network.specs.Windows.{in_window}
use Rattle.table_network.proofs.laws.Windows.{window_low, window_high, window_in, window_kept}

module _ (p : ℕ → ℕ → Bool) (m : List ℕ) (n : ℕ) where
  -- in a list of zeros, none of the first n numbers having a mark
  pub counted_from : Clear m → ((i g : ℕ) → g < n → p i g ≡ false) → Counted p m n
  counted_from w h = record { at = λ i l. w.zero i ∙ sym (count_rest (p i) 0 n (omega arith) (λ g a b. h i g b) ∙ count_none (p i)) }

  -- number n has no mark with an entry
  pub counted_skip : Counted p m n → ((i : ℕ) → i < length m → p i n ≡ false) → Counted p m (n + 1)
  counted_skip w h = record { at = λ i l. rw (count_next (p i) n, h i l) (w.at i l) }

  -- number n has the mark x alone
  pub counted_more : (x : ℕ) → Counted p m n → ((i : ℕ) → i < length m → p i n ≡ eqb x i) → Counted p (set m x (get_or m x 0 + 1)) (n + 1)
  counted_more x w h = record { at = λ i l. rw (count_next (p i) n, h i (simp length-set at l)) (entry i (simp length-set at l)) }
    where
      entry : (i : ℕ) → i < length m → get_or (set m x (get_or m x 0 + 1)) i 0 ≡ pick (eqb x i) (count_if (p i) n + 1) (count_if (p i) n)
      entry i l =
          ⊎_elim (λ (e : eqb x i ≡ true). rw (e, eqb-true x i e) (get_or-set_same m i _ 0 l ∙ ap (λ (v : ℕ). v + 1) (w.at i l)))
          (λ (e : eqb x i ≡ false). rw e (get_or-set_other m x i _ 0 (λ q. eqb-false x i e (sym q)) ∙ w.at i l))
          (test_cases (eqb x i))

  -- no entry is above the number of numbers
  pub counted_small : (i : ℕ) → i < length m → Counted p m n → get_or m i 0 ≤ n
  counted_small i l w = rw (w.at i l) (count_le (p i) n)

-- at least eight is not below eight
eight_not : (c : ℕ) → leb 8 c ≡ not (ltb c 8)
eight_not c =
    ⊎_elim (λ (e : ltb c 8 ≡ true). rw e (lt-leb 8 c (ltb-true c 8 e))) (λ (e : ltb c 8 ≡ false). rw e (le-leb 8 c (ltb-false c 8 e))) (test_cases (ltb c 8))

-- ---- the events of associations

-- event y under flag g is event x under flag h: their numbers among all events are equal
slots_same : (inputs h x g y : ℕ) → h ≤ 1 → g ≤ 1 → (h ≡ 0 → x < inputs) → (g ≡ 0 → y < inputs)
    → both (eqb g h) (eqb y x) ≡ eqb (pick (eqb g 0) y (inputs + y)) (pick (eqb h 0) x (inputs + x))
slots_same inputs h x g y lh lg fh fg =
    ⊎_elim
    (λ (a : eqb h 0 ≡ true). ⊎_elim (λ (b : eqb g 0 ≡ true). rw (a, b) (rw (eqb-true h 0 a, eqb-true g 0 b) refl))
    (λ (b : eqb g 0 ≡ false). rw (a, b) (rw (eqb-true h 0 a, b) (sym (ne_eqb (inputs + y) x (λ e. let z = fh (eqb-true h 0 a) in omega arith))))) (test_cases (eqb g 0)))
    (λ (a : eqb h 0 ≡ false). ⊎_elim (λ (b : eqb g 0 ≡ true). let q = eqb-true g 0 b in let o = eqb-false h 0 a in let v : h ≡ 1 = omega (arith, o) in
    rw (a, b) (rw (q, v) (sym (ne_eqb y (inputs + x) (λ e. let z = fg q in omega arith)))))
    (λ (b : eqb g 0 ≡ false). let o = eqb-false h 0 a in let v : h ≡ 1 = omega (arith, o) in let u = eqb-false g 0 b in let w : g ≡ 1 = omega (arith, u) in
    rw (a, b) (rw (v, w) (same_test (eqb y x) (eqb (inputs + y) (inputs + x))
    (λ e. let z = eqb-true y x e in eq-eqb (inputs + y) (inputs + x) (omega arith))
    (λ e. let z = eqb-true (inputs + y) (inputs + x) e in eq-eqb y x (omega arith))))) (test_cases (eqb g 0)))
    (test_cases (eqb h 0))

module _ (T : List ℕ) where
  record Event (inputs f : ℕ) : Type 0 where
    flag : flag_at T f ≤ 1
    input : flag_at T f ≡ 0 → field_at T f 0 < inputs
    slot : slot_of T inputs f < inputs + count_of T event_output

  event_at : (inputs f : ℕ) → inputs ≡ count_of T event_input → kind_at T f ≡ association → form_ok T f ≡ true → refers_ok T f ≡ true → Event inputs f
  unfolding slot_of
  event_at inputs f e k a b =
      let l : flag_at T f ≤ 1 = rw k at (formed T f a).body.flag in
      record {
        flag = l;
        input = λ q. let z = (input_joined T f k b q).event in omega arith;
        slot = ⊎_elim
            (λ (o : eqb (flag_at T f) 0 ≡ true). rw o (let z = (input_joined T f k b (eqb-true (flag_at T f) 0 o)).event in omega arith))
            (λ (o : eqb (flag_at T f) 0 ≡ false).
            let n = eqb-false (flag_at T f) 0 o in
            let q : flag_at T f ≡ 1 = omega (arith, n) in
            rw o (let z = (output_joined T f k b q).event in omega arith))
            (test_cases (eqb (flag_at T f) 0));
      }

  pub events_told : (at from : List ℕ) (inputs n : ℕ) → Known T at from n → inputs ≡ count_of T event_input → Slotting T inputs n
  unfolding slot_of same_event
  events_told at from inputs n w e =
      record {
        same = λ f g lf lg kf kg. same f g kg (event f lf kf) (event g lg kg);
        below = λ f l k. (event f l k).slot;
      }
    where
      event : (f : ℕ) → f < n → kind_at T f ≡ association → Event inputs f
      event f l k = event_at inputs f e k (all_at (form_ok T) n f l w.stretches.form) (all_at (refers_ok T) n f l w.refers)

      same : (f g : ℕ) → kind_at T g ≡ association → Event inputs f → Event inputs g → same_event T f g ≡ eqb (slot_of T inputs g) (slot_of T inputs f)
      same f g kg ef eg =
          rw (eq-eqb (kind_at T g) 5 kg)
          (slots_same inputs (flag_at T f) (field_at T f 0) (flag_at T g) (field_at T g 0) ef.flag eg.flag ef.input eg.input)

  pub slotting_less : (inputs n e : ℕ) → e ≤ n → Slotting T inputs n → Slotting T inputs e
  slotting_less inputs n e l w = record { same = λ f g lf lg. w.same f g (omega arith) (omega arith); below = λ f q. w.below f (omega arith) }

  pub eight_other : (f : ℕ) → (kind_at T f ≡ association → ⊥) → eight_at_most T f ≡ true
  unfolding eight_at_most
  eight_other f ne = rw (ne_eqb (kind_at T f) 5 ne)

  -- where no event is left, every frame keeps the rule
  pub eight_past : (inputs n b : ℕ) → Slotting T inputs n → inputs + count_of T event_output ≤ b → (f : ℕ) → f < n → b ≤ slot_of T inputs f → eight_at_most T f ≡ true
  eight_past inputs n b w l f lf h =
      ⊎_elim (λ (e : eqb (kind_at T f) 5 ≡ true). absurd (let z = w.below f lf (eqb-true (kind_at T f) 5 e) in omega arith))
      (λ (e : eqb (kind_at T f) 5 ≡ false). eight_other f (eqb-false (kind_at T f) 5 e)) (test_cases (eqb (kind_at T f) 5))

  pub eight_window_other : (inputs b size f : ℕ) → (kind_at T f ≡ association → ⊥) → in_window (eight_at_most T) (slot_of T inputs) b size f ≡ true
  eight_window_other inputs b size f ne = window_kept (eight_at_most T) (slot_of T inputs) b size f (eight_other f ne)

  pub slotted_other : (inputs b f : ℕ) → (kind_at T f ≡ association → ⊥) → (i : ℕ) → slotted T inputs b i f ≡ false
  unfolding slotted
  slotted_other inputs b f ne i = rw (ne_eqb (kind_at T f) 5 ne)

  no_event : (f g : ℕ) → eqb (kind_at T g) 5 ≡ false → same_event T f g ≡ false
  unfolding same_event
  no_event f g q = rw q

  -- ---- the counts of events, those from b on
  module _ (inputs n : ℕ) where
    event_slotted : (b f g i : ℕ) → kind_at T f ≡ association → f < n → g < n → Slotting T inputs n → slot_of T inputs f ≡ b + i → same_event T f g ≡ slotted T inputs b i g
    unfolding slotted
    event_slotted b f g i kf lf lg w e =
        ⊎_elim (λ (q : eqb (kind_at T g) 5 ≡ true). rw q (w.same f g lf lg kf (eqb-true (kind_at T g) 5 q) ∙ rw e refl))
        (λ (q : eqb (kind_at T g) 5 ≡ false). rw q (no_event f g q))
        (test_cases (eqb (kind_at T g) 5))

    module _ (b f x : ℕ) (m : List ℕ) (kf : kind_at T f ≡ association) (lf : f < n) (e : x ≡ slot_of T inputs f) where
      eight_told : b ≤ x → x - b < length m → Slotting T inputs n → Counted (slotted T inputs b) m f → eight_at_most T f ≡ ltb (get_or m (x - b) 0) 8
      unfolding eight_at_most
      eight_told l h w s =
          rw (eq-eqb (kind_at T f) 5 kf)
          (ap (λ (v : ℕ). ltb v 8)
          (count_same (same_event T f) (slotted T inputs b (x - b)) f (λ g q. event_slotted b f g (x - b) kf lf (omega arith) w (omega arith)) ∙ sym (s.at (x - b) h)))

      -- an event in the window: its count tells, and grows by one
      pub eight_in : {c : ℕ} → b ≤ x → x - b < length m → Slotting T inputs n → Counted (slotted T inputs b) m f → c ≡ get_or m (x - b) 0
          → leb 8 c ≡ not (in_window (eight_at_most T) (slot_of T inputs) b (length m) f)
      eight_in l h w s q =
          ap (leb 8) q ∙ eight_not (get_or m (x - b) 0)
          ∙ sym (ap not (window_in (eight_at_most T) (slot_of T inputs) b (length m) f (omega arith) (omega arith) ∙ eight_told l h w s))

      pub counted_in : b ≤ x → Counted (slotted T inputs b) m f → Counted (slotted T inputs b) (set m (x - b) (get_or m (x - b) 0 + 1)) (f + 1)
      unfolding slotted
      counted_in l s = counted_more (slotted T inputs b) m f (x - b) s (λ i q. rw (eq-eqb (kind_at T f) 5 kf) (moved i))
        where
          moved : (i : ℕ) → eqb (slot_of T inputs f) (b + i) ≡ eqb (x - b) i
          moved i =
              same_test (eqb (slot_of T inputs f) (b + i)) (eqb (x - b) i)
              (λ q. let z = eqb-true (slot_of T inputs f) (b + i) q in eq-eqb (x - b) i (omega arith))
              (λ q. let z = eqb-true (x - b) i q in eq-eqb (slot_of T inputs f) (b + i) (omega arith))

      -- an event before the window, and one past it
      pub eight_low : x < b → false ≡ not (in_window (eight_at_most T) (slot_of T inputs) b (length m) f)
      eight_low l = sym (ap not (window_low (eight_at_most T) (slot_of T inputs) b (length m) f (omega arith)))

      pub counted_low : x < b → Counted (slotted T inputs b) m f → Counted (slotted T inputs b) m (f + 1)
      unfolding slotted
      counted_low l s = counted_skip (slotted T inputs b) m f s (λ i q. rw (eq-eqb (kind_at T f) 5 kf) (ne_eqb (slot_of T inputs f) (b + i) (λ z. omega arith)))

      pub eight_high : b ≤ x → length m ≤ x - b → false ≡ not (in_window (eight_at_most T) (slot_of T inputs) b (length m) f)
      eight_high l h = sym (ap not (window_high (eight_at_most T) (slot_of T inputs) b (length m) f (omega arith)))

      pub counted_high : b ≤ x → length m ≤ x - b → Counted (slotted T inputs b) m f → Counted (slotted T inputs b) m (f + 1)
      unfolding slotted
      counted_high l h s = counted_skip (slotted T inputs b) m f s (λ i q. rw (eq-eqb (kind_at T f) 5 kf) (ne_eqb (slot_of T inputs f) (b + i) (λ z. omega arith)))
