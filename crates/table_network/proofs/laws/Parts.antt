-- What the tally of parts counts, and which frames it has to look at. An element's id is its frame.
use Rattle.std.specs.Prelude.{◌≡◌, List, true, false, ℕ, ◌+◌, ◌*◌, ◌≤◌, ◌<◌, ltb, get_or}
use Rattle.std.proofs.Math.Path.{refl}
use Rattle.std.proofs.Common.{ap, ◌∙◌, ⊎_elim, arith}
use Rattle.std.proofs.Math.Bool.{Bool}
use Rattle.std.proofs.Math.Dec.{eqb}
use borrow.Author.Tests.{ltb-true, lt-ltb, eqb-true, eq-eqb, ne_eqb}
use Rattle.rules_walks.specs.Pick.{pick, both}
use Rattle.rules_walks.proofs.laws.Pick.{both_left, both_right, both_intro, same_test, tri}
use Rattle.rules_walks.specs.All.{all_to}
use Rattle.rules_walks.proofs.laws.All.{all_at}
use Rattle.rules_walks.proofs.laws.Count.{count_same}
use Rattle.rules_walks.specs.Tally.{Tallied}
use Rattle.rules_walks.proofs.laws.Tally.{tallied_rest}
use Rattle.rules_tables.specs.Kind.{element, event_input, event_output, variable}
use Rattle.rules_tables.specs.Frame.{kind_at, flag_at, field_at, frames_of}
use Rattle.rules_tables.specs.Form.{form_ok}
use Rattle.rules_tables.proofs.laws.Formed.{formed, element_own}
use Rattle.rules_tables.specs.Place.{Starts}
use Rattle.rules_tables.proofs.laws.Places.{below_le, below_next}
use Rattle.rules_tables.specs.Shapes.{class_at, part_at, parts, shape_as, shape_ok}
use Rattle.table_network.specs.Keys.{far, part_key}
use Rattle.table_network.proofs.laws.Known.{ordered, below_yes, below_no}

-- what is not far passed its test
near : (b : Bool) (v : ℕ) → pick b v far < far → b ≡ true
near true v h = refl
near false v h = absurd (omega arith)

module _ (T : List ℕ) where
  -- ---- the parts of an element

  part_same : (c el f : ℕ) → c < 6 → el < 64 → eqb (part_key T f) (6 * el + c) ≡ part_at T c el f
  unfolding part_key part_at
  part_same c el f hc he = same_test (eqb (part_key T f) (6 * el + c)) (part_at T c el f) forth back
    where
      known : Bool
      known = both (ltb (class_at T f) 6) (ltb (field_at T f 0) 64)

      forth : eqb (part_key T f) (6 * el + c) ≡ true → part_at T c el f ≡ true
      forth e =
          let q = eqb-true (part_key T f) (6 * el + c) e in
          let b = near known (6 * field_at T f 0 + class_at T f) (omega arith) in
          let s = ap (λ (b : Bool). pick b (6 * field_at T f 0 + class_at T f) far) b in
          let l = ltb-true (class_at T f) 6 (both_left (ltb (class_at T f) 6) (ltb (field_at T f 0) 64) b) in
          both_intro (eqb (class_at T f) c) (eqb (field_at T f 0) el) (eq-eqb (class_at T f) c (omega arith)) (eq-eqb (field_at T f 0) el (omega arith))

      back : part_at T c el f ≡ true → eqb (part_key T f) (6 * el + c) ≡ true
      back e =
          let a = eqb-true (class_at T f) c (both_left (eqb (class_at T f) c) (eqb (field_at T f 0) el) e) in
          let b = eqb-true (field_at T f 0) el (both_right (eqb (class_at T f) c) (eqb (field_at T f 0) el) e) in
          rw (lt-ltb (class_at T f) 6 (omega arith), lt-ltb (field_at T f 0) 64 (omega arith)) (eq-eqb (6 * field_at T f 0 + class_at T f) (6 * el + c) (omega arith))

  pub parts_tally : (m : List ℕ) (c el : ℕ) → c < 6 → el < 64 → Tallied (part_key T) 384 m (frames_of T) → get_or m (6 * el + c) 0 ≡ parts T c el
  unfolding parts
  parts_tally m c el hc he w =
      w.at (6 * el + c) (omega arith) ∙ count_same (λ f. eqb (part_key T f) (6 * el + c)) (part_at T c el) (frames_of T) (λ f _. part_same c el f hc he)

  -- frames of another kind are no parts
  no_part : (f : ℕ) → (kind_at T f ≡ event_input → ⊥) → (kind_at T f ≡ event_output → ⊥) → (kind_at T f ≡ variable → ⊥) → far ≤ part_key T f
  unfolding part_key class_at
  no_part f a b c = rw (ne_eqb (kind_at T f) 2 a, ne_eqb (kind_at T f) 3 b, ne_eqb (kind_at T f) 4 c) (omega arith)

  pub starts_rise : (at : List ℕ) → Starts T at → (get_or at 2 0 ≤ get_or at 5 0) × (get_or at 5 0 ≤ frames_of T)
  starts_rise at s =
      let n = frames_of T in
      let a = s.starts 2 (omega arith) in
      let b = s.starts 5 (omega arith) in
      let p = below_next T 2 n in
      let q = below_next T 3 n in
      let r = below_next T 4 n in
      (omega arith, (let z = below_le T 5 n in omega arith))

  -- in a table in order, those before the event inputs and those behind the variables
  pub parts_from : (at m : List ℕ) → Starts T at → all_to (form_ok T) (frames_of T) ≡ true → Tallied (part_key T) 384 m 0 → Tallied (part_key T) 384 m (get_or at 2 0)
  parts_from at m s h w =
      let e = s.starts 2 (omega arith) in
      tallied_rest (part_key T) 384 m 0 (get_or at 2 0) (omega arith)
      (λ i a b.
      let c = ⊎_elim (λ l. l) (λ v. absurd (let z = below_no T 2 (frames_of T) i (ordered T (frames_of T) h) (let q = below_le T 2 (frames_of T) in omega arith) (⊎_elim (λ o. omega arith) (λ o. omega arith) v) in omega arith)) (tri (kind_at T i) 2) in
      no_part i (λ q. omega arith) (λ q. omega arith) (λ q. omega arith)) w

  pub parts_rest : (at m : List ℕ) → Starts T at → all_to (form_ok T) (frames_of T) ≡ true → Tallied (part_key T) 384 m (get_or at 5 0) → Tallied (part_key T) 384 m (frames_of T)
  parts_rest at m s h w =
      let e = s.starts 5 (omega arith) in
      tallied_rest (part_key T) 384 m (get_or at 5 0) (frames_of T) (let q = below_le T 5 (frames_of T) in omega arith)
      (λ i a b.
      let c : 5 ≤ kind_at T i = ⊎_elim (λ l. absurd (let z = below_yes T 5 (frames_of T) i (ordered T (frames_of T) h) b l in omega arith)) (λ v. ⊎_elim (λ o. omega arith) (λ o. omega arith) v) (tri (kind_at T i) 5) in
      no_part i (λ q. omega arith) (λ q. omega arith) (λ q. omega arith)) w

  -- ---- elements among frames that have their form

  pub element_few : (n f : ℕ) → all_to (form_ok T) n ≡ true → f < n → kind_at T f ≡ element → f < 64
  element_few n f h l k = rw (k, element_own T n f h l k) at (formed T f (all_at (form_ok T) n f l h)).room

  pub shape_element : (n f : ℕ) → all_to (form_ok T) n ≡ true → f < n → kind_at T f ≡ element → shape_ok T f ≡ shape_as (flag_at T f) T f
  unfolding shape_ok
  shape_element n f h l k = rw (eq-eqb (kind_at T f) 1 k, element_own T n f h l k) refl

  pub shape_other : (f : ℕ) → (kind_at T f ≡ element → ⊥) → shape_ok T f ≡ true
  unfolding shape_ok
  shape_other f ne = rw (ne_eqb (kind_at T f) 1 ne) refl
