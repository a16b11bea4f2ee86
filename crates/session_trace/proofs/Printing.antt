-- What is printed, over plain variables.
use mathlib.Core.Path.{◌≡◌, refl, sym, ap, ◌∙◌}
use mathlib.Core.List.{List, [], ◌++◌, append_assoc}
use Prim.Native.Nat.{ℕ, ◌+◌, ◌≤◌}
use native.Mathlib.Omega.{arith}
use lib.ListN.{length, take, drop, length-append}
use lib.Seq.{sets, sets-eq, drop-drop}
use borrow.Rule.Slice.PartMut.{put_mid}
use Rattle.rules_numbers.proofs.laws.Sets.{and_then_lem}
use Rattle.lines.specs.Printed.{Printed}

-- ---- a word copied into its place
pub word_put : (W t C : List ℕ) (at k : ℕ) → C ≡ W → k ≡ length W → at + length W ≤ length t → Printed W at (at + length W) (at + length W) t (put_mid at k t C)
word_put W t C at k e f l = record { place_is = refl; text_is = rw (e, f) (sym whole); room = omega arith }
  where
    whole : sets t at W ≡ take at t ++ (W ++ drop (length W) (drop at t))
    whole = sets-eq W t at l ∙ append_assoc (take at t) W (drop (at + length W) t) ∙ ap (λ (X : List ℕ). take at t ++ (W ++ X)) (sym (drop-drop (length W) at t))

-- ---- nothing, and one after another
module _ {text : List ℕ} {at : ℕ} where
  pub prints_none : (most : ℕ) → at ≤ most → Printed [] at most at text text
  prints_none most l = record { place_is = omega arith; text_is = refl; room = l }

module _ {P Q text text₁ text₂ : List ℕ} {at m n p r : ℕ} where
  pub prints_then : Printed P at m p text text₁ → Printed Q p n r text₁ text₂ → Printed (P ++ Q) at n r text text₂
  prints_then v w =
      record {
        place_is = let a = v.place_is in let b = w.place_is in let c = length-append P Q in omega arith;
        text_is = and_then_lem text at p P Q v.place_is v.text_is w.text_is;
        room = w.room;
      }

-- what is printed is another, and there is more room
module _ {P Q text text' : List ℕ} {at m r : ℕ} where
  pub prints_is : (n : ℕ) → P ≡ Q → m ≤ n → Printed P at m r text text' → Printed Q at n r text text'
  prints_is n e l w =
      record {
        place_is = w.place_is ∙ ap (λ (x : List ℕ). at + length x) e;
        text_is = w.text_is ∙ ap (sets text at) e;
        room = let h = w.room in omega arith;
      }
