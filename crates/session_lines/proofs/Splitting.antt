-- A run's bytes taken apart into records, one line each: what a loop over them has printed so far.
use Rattle.std.specs.Prelude.{Ok}
use mathlib.Core.Path.{◌≡◌, refl, sym, ap, ◌∙◌}
use mathlib.Core.List.{List, [], ◌++◌, append_assoc, append-nil}
use Prim.Native.Nat.{ℕ, zero, suc, ◌+◌, ◌*◌, ◌-◌, ◌≤◌, ◌<◌}
use native.Mathlib.Omega.{arith}
use lib.ListN.{length, take, drop, length-append, length-drop}
use lib.Seq.{sets, length-take-le}
use borrow.Author.Tests.{le-leb, lt-leb}
use Rattle.rules_walks.proofs.laws.Choose.{choose_true, choose_false}
use Rattle.rules_numbers.specs.Bytes.{half_at}
use Rattle.rules_numbers.proofs.laws.Sets.{and_then_lem}
use Rattle.rules_tables.specs.declared.Shape.{Shape}
use Rattle.rules_tables.specs.Judge.{judged, Judged}
use Rattle.rules_tables.proofs.laws.Judge.{was_sound}
use Rattle.rules_tables.proofs.laws.Accepted.{accepted_means}
use Rattle.rules_tables.specs.Good.{Good}
use Rattle.rules_tables.proofs.laws.Good.{good}
use Rattle.rules_sessions.specs.Text.{line_of}
use Rattle.rules_sessions.proofs.laws.Text.{line_length}
use Rattle.rules_sessions.specs.RecordLines.{record_lines}

module _ (size : ℕ → ℕ) (B : List ℕ) where
  abbrev whole : List ℕ
  whole = record_lines size B 0 (length B)

  -- from place `from` on nothing is printed yet; p is the next place of the text
  pub record Printed (text₀ : List ℕ) (at from p : ℕ) (text : List ℕ) : Type 0 where
    pub done : List ℕ
    pub fuel : ℕ
    pub enough : length B ≤ from + fuel
    pub split : whole ≡ done ++ record_lines size B from fuel
    pub text_is : text ≡ sets text₀ at done
    pub place : p ≡ at + length done
    pub within : p ≤ at + 3 * from

  pub printed_none : (text : List ℕ) (at : ℕ) → Printed text at 0 at text
  printed_none text at =
      record { done = []; fuel = length B; enough = omega arith; split = refl; text_is = refl; place = omega arith; within = omega arith }

  module _ (text₀ : List ℕ) (at from p : ℕ) (text : List ℕ) (w : Printed text₀ at from p text) (z : ℕ) (long : z ≡ size (half_at B (from + 2))) where
    -- there is a record more
    one_more : (k : ℕ) → from + z ≤ length B → record_lines size B from (suc k) ≡ line_of (take z (drop from B)) ++ record_lines size B (from + z) k
    unfolding record_lines
    one_more k h = rw (← long) (choose_true _ _ _ (le-leb (from + z) (length B) h))

    no_more : (k : ℕ) → length B < from + z → record_lines size B from k ≡ []
    unfolding record_lines
    no_more zero h = refl
    no_more (suc k) h = rw (← long) (choose_false _ _ _ (lt-leb (from + z) (length B) h))

    -- its stretch of the bytes
    abbrev stretch : List ℕ
    stretch = take (from + z - from) (drop from B)

    pub printed_more : (text' : List ℕ) (p' : ℕ) → 16 ≤ z → from + z ≤ length B → text' ≡ sets text p (line_of stretch) → p' ≡ p + 2 * length stretch + 1 → Printed text₀ at (from + z) p' text'
    printed_more text' p' some fits u q = by w.fuel w.enough w.split
      where
        x : stretch ≡ take z (drop from B)
        x = let e : from + z - from ≡ z = omega arith in ap (λ (n : ℕ). take n (drop from B)) e

        long_is : length stretch ≡ z
        long_is = ap length x ∙ length-take-le z (drop from B) (simp length-drop (omega arith))

        by : (k : ℕ) → length B ≤ from + k → whole ≡ w.done ++ record_lines size B from k → Printed text₀ at (from + z) p' text'
        by zero e s = absurd (omega arith)
        by (suc k) e s =
            record {
              done = w.done ++ line_of stretch;
              fuel = k;
              enough = omega arith;
              split = s ∙ rw (one_more k fits, ← x) (sym (append_assoc w.done (line_of stretch) (record_lines size B (from + z) k)));
              text_is = and_then_lem text₀ at p w.done (line_of stretch) w.place w.text_is u;
              place = let a = length-append w.done (line_of stretch) in let b = line_length stretch in let c = w.place in omega arith;
              within = let a = w.within in let b = long_is in omega arith;
            }

    -- there is none
    pub printed_all : length B < from + z → (text ≡ sets text₀ at whole) × (p ≡ at + length whole)
    printed_all h =
        let e : whole ≡ w.done = w.split ∙ rw (no_more w.fuel h) (append-nil w.done) in
        (w.text_is ∙ ap (sets text₀ at) (sym e), w.place ∙ ap (λ (l : List ℕ). at + length l) (sym e))

-- ---- by what the check says of the table
module _ (T B : List ℕ) {j : Judged} (told : j ≡ judged T) where
  module _ {S : Shape} (sound : j ≡ Ok S) where
    pub ready : Good T S
    ready = let w = was_sound T S (sym told ∙ sound) in rw w.1 (good T (accepted_means T w.0))
