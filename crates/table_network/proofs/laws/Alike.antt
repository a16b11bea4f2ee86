-- Frames share what they may not exactly when their keys are equal: what a set of keys tells.
use Rattle.std.specs.Prelude.{◌≡◌, List, Bool, true, false, ℕ, ◌+◌, ◌*◌, ◌/◌, ◌-◌, ◌≤◌, ◌<◌, max, length}
use Rattle.std.proofs.Math.Path.{refl, sym}
use Rattle.std.proofs.Common.{ap, ◌∙◌, mul-le-mul, mul-le-mul_right, add-mul, one-mul}
use Rattle.std.proofs.Math.Bool.{not}
use Rattle.std.proofs.Math.Logic.{⊎_elim}
use native.Mathlib.Omega.{arith}
use Rattle.std.proofs.Math.Dec.{eqb}
use borrow.Author.Tests.{eqb-true, eqb-false, eq-eqb, ne_eqb}
use Rattle.rules_walks.specs.Pick.{both}
use Rattle.rules_walks.proofs.laws.Pick.{both_left, both_right, both_intro, same_test, test_cases, tri}
use Rattle.rules_walks.proofs.laws.All.{all_at, any_same}
use Rattle.rules_tables.specs.Kind.{element, event_input, event_output, variable, association, event_connection, data_connection}
use Rattle.rules_tables.specs.Frame.{kind_at, flag_at, field_at}
use Rattle.rules_tables.specs.Place.{count_of, flag_of}
use Rattle.rules_tables.specs.Form.{form_ok}
use Rattle.rules_tables.proofs.laws.Formed.{formed}
use Rattle.rules_tables.specs.Reference.{refers_ok}
use Rattle.rules_tables.proofs.laws.Referring.{input_of, input_joined, output_joined, connected, linked}
use Rattle.rules_tables.specs.Fresh.{same_field, same_flag, alike, shares, fresh}
use Rattle.numbers_bits.specs.Bit.{in_set, added}
use Rattle.numbers_bits.specs.Marked.{Marked}
use Rattle.numbers_bits.proofs.laws.Marked.{marked_skip, marked_more}
use Rattle.table_network.specs.Keys.{pair_key, key_at, keyed, Telling, Spanning}
use Rattle.table_network.specs.Known.{Known}
use Rattle.table_network.specs.Windows.{in_window}
use Rattle.table_network.proofs.laws.Windows.{not_not, window_low, window_high, window_in, window_kept}

-- ---- keys of pairs

-- there are not too many
pub keys_few : (x y : ℕ) → x ≤ 4096 → y ≤ 4096 → x * y ≤ 16777216
keys_few x y a b = mul-le-mul {n₁ = x} {m₁ = y} {n₂ = 4096} {m₂ = 4096} a b

-- each x has its own stretch of keys
apart : (s x x' : ℕ) → x < x' → x * s + s ≤ x' * s
apart s x x' l =
    let a = mul-le-mul_right {m = x + 1} {n = x'} s (omega arith) in
    let b = add-mul x 1 s in
    let c = one-mul s in
    omega arith

pub pair_below : (xs ys x y : ℕ) → x < xs → y < ys → pair_key ys x y < xs * ys
unfolding pair_key
pair_below xs ys x y l h = let a = apart ys x xs l in omega arith

first_one : (s x y x' y' : ℕ) → y < s → y' < s → x * s + y ≡ x' * s + y' → x ≡ x'
first_one s x y x' y' l h e =
    ⊎_elim (λ g. absurd (let a = apart s x x' g in omega arith))
    (⊎_elim (λ q. q) (λ g. absurd (let a = apart s x' x g in omega arith))) (tri x x')

pub pair_same : (ys x y x' y' : ℕ) → y < ys → y' < ys → both (eqb x' x) (eqb y' y) ≡ eqb (pair_key ys x' y') (pair_key ys x y)
unfolding pair_key
pair_same ys x y x' y' l h = same_test (both (eqb x' x) (eqb y' y)) (eqb (x' * ys + y') (x * ys + y)) back forth
  where
    forth : eqb (x' * ys + y') (x * ys + y) ≡ true → both (eqb x' x) (eqb y' y) ≡ true
    forth e =
        let q = eqb-true (x' * ys + y') (x * ys + y) e in
        let a = first_one ys x' y' x y h l q in
        let z = ap (λ (v : ℕ). v * ys) a in
        let b : y' ≡ y = omega arith in
        both_intro (eqb x' x) (eqb y' y) (eq-eqb x' x a) (eq-eqb y' y b)

    back : both (eqb x' x) (eqb y' y) ≡ true → eqb (x' * ys + y') (x * ys + y) ≡ true
    back e =
        let a = eqb-true x' x (both_left (eqb x' x) (eqb y' y) e) in
        let b = eqb-true y' y (both_right (eqb x' x) (eqb y' y) e) in
        eq-eqb (x' * ys + y') (x * ys + y) (rw (a, b) refl)

-- ---- the five kinds

module _ (T : List ℕ) where
  -- an association's flag is that of its variable, and its event exists
  record Joined (f : ℕ) : Type 0 where
    flag : flag_of T variable (field_at T f 1) ≡ flag_at T f
    variable : field_at T f 1 < count_of T variable
    event : field_at T f 0 < max (count_of T event_input) (count_of T event_output)

  joined_at : (f : ℕ) → kind_at T f ≡ association → form_ok T f ≡ true → refers_ok T f ≡ true → Joined f
  joined_at f k a b =
      let l : flag_at T f ≤ 1 = rw k at (formed T f a).body.flag in
      ⊎_elim
      (λ (e : eqb (flag_at T f) 0 ≡ true).
      let q = eqb-true (flag_at T f) 0 e in
      let w = input_joined T f k b q in
      record { flag = w.flag ∙ sym q; variable = w.owned.exists; event = let z = w.event in omega arith })
      (λ (e : eqb (flag_at T f) 0 ≡ false).
      let n = eqb-false (flag_at T f) 0 e in
      let q : flag_at T f ≡ 1 = omega (arith, n) in
      let w = output_joined T f k b q in
      record { flag = w.flag ∙ sym q; variable = w.owned.exists; event = let z = w.event in omega arith })
      (test_cases (eqb (flag_at T f) 0))

  module _ (at from : List ℕ) (n : ℕ) (w : Known T at from n) where
    form_at : (f : ℕ) → f < n → form_ok T f ≡ true
    form_at f l = all_at (form_ok T) n f l w.stretches.form

    refers_at : (f : ℕ) → f < n → refers_ok T f ≡ true
    refers_at f l = all_at (refers_ok T) n f l w.refers

    pub inputs_told : Telling event_input T 256 n
    unfolding alike key_at
    inputs_told =
        record {
          same = λ f g lf lg kf kg.
              pair_same 256 (field_at T f 0) (flag_at T f) (field_at T g 0) (flag_at T g) (flag_small f lf kf) (flag_small g lg kg);
        }
      where
        flag_small : (f : ℕ) → f < n → kind_at T f ≡ event_input → flag_at T f < 256
        flag_small f l k = let z : flag_at T f ≤ 255 = rw k at (formed T f (form_at f l)).body.flag in omega arith

    pub inputs_spanned : Spanning event_input T 256 (count_of T element * 256) n
    unfolding key_at
    inputs_spanned =
        record {
          below = λ f l k.
              let z : flag_at T f ≤ 255 = rw k at (formed T f (form_at f l)).body.flag in
              pair_below (count_of T element) 256 (field_at T f 0) (flag_at T f) (input_of T f k (refers_at f l)) (omega arith);
        }

    associations_same : (ys f g : ℕ) → ys ≡ max (count_of T event_input) (count_of T event_output) → Joined f → Joined g
        → both (same_flag T f g) (both (same_field T f g 0) (same_field T f g 1)) ≡ eqb (pair_key ys (field_at T g 1) (field_at T g 0)) (pair_key ys (field_at T f 1) (field_at T f 0))
    associations_same ys f g e jf jg =
        same_test flags fields forth back
        ∙ pair_same ys (field_at T f 1) (field_at T f 0) (field_at T g 1) (field_at T g 0) (let z = jf.event in omega arith) (let z = jg.event in omega arith)
      where
        flags : Bool
        flags = both (same_flag T f g) (both (same_field T f g 0) (same_field T f g 1))

        fields : Bool
        fields = both (same_field T f g 1) (same_field T f g 0)

        forth : flags ≡ true → fields ≡ true
        forth e =
            let p = both_right (same_flag T f g) (both (same_field T f g 0) (same_field T f g 1)) e in
            both_intro (same_field T f g 1) (same_field T f g 0)
            (both_right (same_field T f g 0) (same_field T f g 1) p)
            (both_left (same_field T f g 0) (same_field T f g 1) p)

        back : fields ≡ true → flags ≡ true
        back e =
            let a = both_left (same_field T f g 1) (same_field T f g 0) e in
            let b = both_right (same_field T f g 1) (same_field T f g 0) e in
            let v = eqb-true (field_at T g 1) (field_at T f 1) a in
            let q = sym jg.flag ∙ ap (flag_of T variable) v ∙ jf.flag in
            both_intro (same_flag T f g) (both (same_field T f g 0) (same_field T f g 1)) (eq-eqb (flag_at T g) (flag_at T f) q)
            (both_intro (same_field T f g 0) (same_field T f g 1) b a)

    pub associations_told : (ys : ℕ) → ys ≡ max (count_of T event_input) (count_of T event_output) → Telling association T ys n
    unfolding alike key_at
    associations_told ys e =
        record {
          same = λ f g lf lg kf kg.
              associations_same ys f g e (joined_at f kf (form_at f lf) (refers_at f lf)) (joined_at g kg (form_at g lg) (refers_at g lg));
        }

    pub associations_spanned : (ys : ℕ) → ys ≡ max (count_of T event_input) (count_of T event_output) → Spanning association T ys (count_of T variable * ys) n
    unfolding key_at
    associations_spanned ys e =
        record {
          below = λ f l k.
              let j = joined_at f k (form_at f l) (refers_at f l) in
              pair_below (count_of T variable) ys (field_at T f 1) (field_at T f 0) j.variable (let z = j.event in omega arith);
        }

    pub connections_told : (ys : ℕ) → ys ≡ count_of T event_input → Telling event_connection T ys n
    unfolding alike key_at
    connections_told ys e =
        record {
          same = λ f g lf lg kf kg.
              pair_same ys (field_at T f 0) (field_at T f 1) (field_at T g 0) (field_at T g 1)
              (let z = (connected T f kf (refers_at f lf)).input in omega arith) (let z = (connected T g kg (refers_at g lg)).input in omega arith);
        }

    pub connections_spanned : (ys : ℕ) → ys ≡ count_of T event_input → Spanning event_connection T ys (count_of T event_output * ys) n
    unfolding key_at
    connections_spanned ys e =
        record {
          below = λ f l k.
              let j = connected T f k (refers_at f l) in
              pair_below (count_of T event_output) ys (field_at T f 0) (field_at T f 1) j.output (let z = j.input in omega arith);
        }

    pub links_told : (ys : ℕ) → Telling data_connection T ys n
    unfolding alike key_at
    links_told ys = record { same = λ f g lf lg kf kg. refl }

    pub links_spanned : (ys : ℕ) → Spanning data_connection T ys (count_of T variable) n
    unfolding key_at
    links_spanned ys = record { below = λ f l k. (linked T f k (refers_at f l)).destination.exists }

-- ---- the set of keys, those from b on

module _ (k : ℕ) (T : List ℕ) (ys n : ℕ) where
  pub telling_less : (e : ℕ) → e ≤ n → Telling k T ys n → Telling k T ys e
  telling_less e l w = record { same = λ f g lf lg. w.same f g (omega arith) (omega arith) }

  pub fresh_other : (f : ℕ) → (kind_at T f ≡ k → ⊥) → fresh k T f ≡ true
  unfolding fresh
  fresh_other f ne = rw (ne_eqb (kind_at T f) k ne)

  -- where no key is left, every frame is fresh
  pub fresh_past : (keys b : ℕ) → Spanning k T ys keys n → keys ≤ b → (f : ℕ) → f < n → b ≤ key_at k T ys f → fresh k T f ≡ true
  fresh_past keys b w l f lf h =
      ⊎_elim (λ (e : eqb (kind_at T f) k ≡ true). absurd (let z = w.below f lf (eqb-true (kind_at T f) k e) in omega arith))
      (λ (e : eqb (kind_at T f) k ≡ false). fresh_other f (eqb-false (kind_at T f) k e)) (test_cases (eqb (kind_at T f) k))

  pub window_other : (b size f : ℕ) → (kind_at T f ≡ k → ⊥) → in_window (fresh k T) (key_at k T ys) b size f ≡ true
  window_other b size f ne = window_kept (fresh k T) (key_at k T ys) b size f (fresh_other f ne)

  pub keyed_other : (b f : ℕ) → (kind_at T f ≡ k → ⊥) → (i : ℕ) → keyed k T ys b i f ≡ false
  unfolding keyed
  keyed_other b f ne i = rw (ne_eqb (kind_at T f) k ne)

  shares_keyed : (b f g i : ℕ) → kind_at T f ≡ k → f < n → g < n → Telling k T ys n → key_at k T ys f ≡ b + i → shares k T f g ≡ keyed k T ys b i g
  unfolding shares keyed
  shares_keyed b f g i kf lf lg w e =
      ⊎_elim (λ (q : eqb (kind_at T g) k ≡ true). rw q (w.same f g lf lg kf (eqb-true (kind_at T g) k q) ∙ rw e refl))
      (λ (q : eqb (kind_at T g) k ≡ false). rw q refl)
      (test_cases (eqb (kind_at T g) k))

  module _ (b f x : ℕ) (m : List ℕ) (kf : kind_at T f ≡ k) (lf : f < n) (e : x ≡ key_at k T ys f) where
    -- a key in the window: the set tells whether the frame is fresh, and then has its key
    fresh_told : b ≤ x → (x - b) / 32 < length m → Telling k T ys n → Marked (keyed k T ys b) (length m) m f → fresh k T f ≡ not (in_set m (x - b))
    unfolding fresh
    fresh_told l h w s =
        rw (eq-eqb (kind_at T f) k kf)
        (ap not (any_same (shares k T f) (keyed k T ys b (x - b)) f (λ g q. shares_keyed b f g (x - b) kf lf (omega arith) w (omega arith)) ∙ sym (s.at (x - b) h)))

    pub told_in : b ≤ x → (x - b) / 32 < length m → Telling k T ys n → Marked (keyed k T ys b) (length m) m f
        → in_set m (x - b) ≡ not (in_window (fresh k T) (key_at k T ys) b (32 * length m) f)
    told_in l h w s =
        sym (ap not (window_in (fresh k T) (key_at k T ys) b (32 * length m) f (omega arith) (omega arith) ∙ fresh_told l h w s) ∙ not_not (in_set m (x - b)))

    pub marked_in : b ≤ x → (x - b) / 32 < length m → Marked (keyed k T ys b) (length m) m f → Marked (keyed k T ys b) (length m) (added m (x - b)) (f + 1)
    unfolding keyed
    marked_in l h s = marked_more (keyed k T ys b) (length m) m f (x - b) s h (λ i q. rw (eq-eqb (kind_at T f) k kf) (moved i))
      where
        moved : (i : ℕ) → eqb (key_at k T ys f) (b + i) ≡ eqb (x - b) i
        moved i =
            same_test (eqb (key_at k T ys f) (b + i)) (eqb (x - b) i)
            (λ q. let z = eqb-true (key_at k T ys f) (b + i) q in eq-eqb (x - b) i (omega arith))
            (λ q. let z = eqb-true (x - b) i q in eq-eqb (key_at k T ys f) (b + i) (omega arith))

    -- a key below the window, and one past it
    pub told_low : x < b → false ≡ not (in_window (fresh k T) (key_at k T ys) b (32 * length m) f)
    told_low l = sym (ap not (window_low (fresh k T) (key_at k T ys) b (32 * length m) f (omega arith)))

    pub told_high : b ≤ x → length m ≤ (x - b) / 32 → false ≡ not (in_window (fresh k T) (key_at k T ys) b (32 * length m) f)
    told_high l h = sym (ap not (window_high (fresh k T) (key_at k T ys) b (32 * length m) f (omega arith)))

    pub marked_high : b ≤ x → length m ≤ (x - b) / 32 → Marked (keyed k T ys b) (length m) m f → Marked (keyed k T ys b) (length m) m (f + 1)
    unfolding keyed
    marked_high l h s =
        marked_skip (keyed k T ys b) (length m) m f s (λ i q. rw (eq-eqb (kind_at T f) k kf) (ne_eqb (key_at k T ys f) (b + i) (λ z. omega arith)))

    pub marked_low : x < b → Marked (keyed k T ys b) (length m) m f → Marked (keyed k T ys b) (length m) m (f + 1)
    unfolding keyed
    marked_low l s =
        marked_skip (keyed k T ys b) (length m) m f s (λ i q. rw (eq-eqb (kind_at T f) k kf) (ne_eqb (key_at k T ys f) (b + i) (λ z. omega arith)))
