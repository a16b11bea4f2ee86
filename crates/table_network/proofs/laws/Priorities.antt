-- What the filter of priorities tells.
use Rattle.std.specs.Prelude.{◌≡◌, refl, List, ℕ, ◌+◌, ◌%◌, ◌<◌, min, get_or}
use Rattle.std.proofs.Math.Path.{sym}
use Rattle.std.proofs.Common.{ap, ◌∙◌, ⊎_elim, arith}
use Rattle.std.proofs.Math.Bool.{false, not}
use borrow.Author.Tests.{eqb-false, eq-eqb, ne_eqb}
use Rattle.rules_walks.proofs.laws.Pick.{tri}
use Rattle.rules_walks.proofs.laws.All.{all_at, any_at, any_no, any_same}
use Rattle.rules_walks.specs.All.{any_to}
use Rattle.rules_tables.specs.Kind.{element}
use Rattle.rules_tables.specs.Frame.{kind_at, field_at}
use Rattle.rules_tables.specs.Form.{form_ok}
use Rattle.rules_tables.specs.Place.{below_to}
use Rattle.rules_tables.proofs.laws.Places.{below_le}
use Rattle.rules_tables.proofs.laws.Formed.{formed}
use Rattle.rules_tables.specs.Fresh.{alike, shares, fresh}
use Rattle.numbers_bits.specs.Bit.{in_set, added}
use Rattle.numbers_bits.specs.Marked.{Marked}
use Rattle.numbers_bits.proofs.laws.Marked.{marked_more}
use Rattle.table_network.specs.Keys.{same_priority, filtered}
use Rattle.table_network.specs.Known.{Stretch, Stretches}
use Rattle.table_network.proofs.laws.Known.{ordered, below_no, stretch}

module _ (T : List ℕ) where
  -- a number whose last bits no earlier frame has is no earlier frame's
  pub filter_tells : (f x : ℕ) (m : List ℕ) → x ≡ field_at T f 0 → Marked (filtered T) 64 m f → in_set m (x % 2048) ≡ false → false ≡ any_to (same_priority T f) f
  unfolding same_priority filtered
  filter_tells f x m e w h =
      let a = w.at (x % 2048) (omega arith) in
      let b : any_to (filtered T (x % 2048)) f ≡ false = sym a ∙ h in
      sym
      (any_no (same_priority T f) f
      (λ g l.
      let c = eqb-false (field_at T g 0 % 2048) (x % 2048) (any_at (filtered T (x % 2048)) f g l b) in
      ne_eqb (field_at T g 0) (field_at T f 0) (λ q. c (ap (λ (v : ℕ). v % 2048) (q ∙ sym e)))))

  pub filter_more : (f x : ℕ) (m : List ℕ) → x ≡ field_at T f 0 → Marked (filtered T) 64 m f → Marked (filtered T) 64 (added m (x % 2048)) (f + 1)
  unfolding filtered
  filter_more f x m e w = marked_more (filtered T) 64 m f (x % 2048) w (omega arith) (λ i l. rw e refl)

  -- elements come first
  pub elements_first : (from : List ℕ) (n hi : ℕ) → Stretches T from n → hi ≡ min (get_or from 2 0) n → Stretch T 1 n 0 hi
  elements_first from n hi w e = stretch T from 1 n 0 hi (omega arith) w (none ∙ sym (w.starts 1 (omega arith))) e
    where
      none : 0 ≡ below_to T 1 n
      none =
          ⊎_elim (λ l. let z = below_no T 1 n 0 (ordered T n w.form) l (formed T 0 (all_at (form_ok T) n 0 l w.form)).low in omega arith)
          (λ v. let z = below_le T 1 n in ⊎_elim (λ q. omega arith) (λ g. omega arith) v) (tri 0 n)

  pub priority_fresh : (n hi f : ℕ) → Stretch T 1 n 0 hi → f < hi → fresh element T f ≡ not (any_to (same_priority T f) f)
  unfolding fresh shares alike same_priority
  priority_fresh n hi f w l =
      rw (eq-eqb (kind_at T f) 1 (w.inside f (omega arith) l))
      (ap not (any_same (shares element T f) (same_priority T f) f (λ g q. rw (eq-eqb (kind_at T g) 1 (w.inside g (omega arith) (omega arith))) refl)))
