-- An element none of whose event outputs is found among those of the shape has none.
use Rattle.std.specs.Prelude.{◌≡◌, List, Bool, ℕ, ◌+◌, ◌<◌, min}
use Rattle.std.proofs.Math.Path.{refl, sym, ap}
use Rattle.std.proofs.Common.{◌∙◌, arith, eqb-true, eq-eqb}
use Rattle.std.proofs.Math.Bool.{true, false}
use Rattle.std.proofs.Math.Dec.{eqb}
use Rattle.rules_walks.specs.Pick.{pick}
use Rattle.rules_walks.proofs.laws.Pick.{clash, both_left, both_right}
use Rattle.rules_walks.proofs.laws.Count.{count_none, count_past, count_rest}
use Rattle.rules_walks.specs.First.{missing}
use Rattle.rules_tables.specs.Kind.{event_output}
use Rattle.rules_tables.specs.Frame.{kind_at, flag_at, field_at, frames_of}
use Rattle.rules_tables.specs.Place.{count_to, count_of, start_of}
use Rattle.rules_tables.proofs.laws.Places.{place_own}
use Rattle.rules_tables.specs.Shapes.{class_at, part_at, parts, event_outputs}
use Rattle.rules_tables.specs.Owned.{any, belongs, nth}
use Rattle.rules_tables.proofs.laws.Owned.{nth_none}
use Rattle.rules_tables.specs.Accepted.{Accepted}

-- a frame of class 1 is an event output
class_output : (T : List ℕ) (f : ℕ) → class_at T f ≡ 1 → kind_at T f ≡ event_output
unfolding class_at
class_output T f = by (eqb (kind_at T f) 2) (eqb (kind_at T f) 3) (eqb (kind_at T f) 4) refl
  where
    by : (a b c : Bool) → eqb (kind_at T f) 3 ≡ b → pick a 0 (pick b 1 (pick c (min (flag_at T f) 3 + 2) 6)) ≡ 1 → kind_at T f ≡ 3
    by true b c h e = absurd (omega arith)
    by false true c h e = eqb-true _ _ h
    by false false true h e = absurd (omega arith)
    by false false false h e = absurd (omega arith)

module _ (T : List ℕ) (a : Accepted T) (el : ℕ) (gone : nth T (start_of T event_output) (count_of T event_output) any el 0 ≡ missing) where
  -- an event output of el would be one of the shape's
  no_part : (f : ℕ) → f < frames_of T → (b : Bool) → part_at T 1 el f ≡ b → b ≡ false
  unfolding part_at belongs
  no_part f lf false h = refl
  no_part f lf true h =
      let kind = class_output T f (eqb-true _ _ (both_left (eqb (class_at T f) 1) (eqb (field_at T f 0) el) h)) in
      let id = count_to T event_output f in
      let under : id < count_of T event_output = count_past (λ (g : ℕ). eqb (kind_at T g) event_output) f (frames_of T) lf (eq-eqb _ _ kind) in
      let at_f : start_of T event_output + id ≡ f = sym (a.at event_output id under) ∙ place_own T event_output f lf kind in
      let own = ap (λ (g : ℕ). eqb (field_at T g 0) el) at_f ∙ both_right (eqb (class_at T f) 1) (eqb (field_at T f 0) el) h in
      clash (sym (nth_none T (start_of T event_output) (count_of T event_output) any el gone id under) ∙ own)

  pub no_output : event_outputs T el ≡ 0
  unfolding parts
  no_output = count_rest (part_at T 1 el) 0 (frames_of T) (omega arith) (λ f _ lf. no_part f lf (part_at T 1 el f) refl) ∙ count_none (part_at T 1 el)
