-- How the set of marks grows, number by number.
use Rattle.std.specs.Prelude.{◌≡◌, List, Bool, true, false, ℕ, ◌+◌, ◌/◌, ◌<◌, eqb, length, replicate}
use Rattle.std.proofs.Common.{sym, ◌∙◌, eqb-true, ⊎_elim}
use Rattle.std.proofs.lemmas.List.{length-replicate}
use Rattle.std.proofs.lemmas.Bool.{eqb-false}
use Rattle.rules_walks.specs.Pick.{either}
use Rattle.rules_walks.proofs.laws.Pick.{either_true, either_false, test_cases}
use Rattle.rules_walks.specs.All.{any_to}
use Rattle.rules_walks.proofs.laws.All.{any_none, any_next, any_no}
use Rattle.numbers_bits.specs.Bit.{in_set, added, Clear}
use Rattle.numbers_bits.proofs.laws.Bit.{in_none, in_clear, in_added_same, in_added_other, length_added}
use Rattle.numbers_bits.specs.Marked.{Marked}

module _ (p : ℕ → ℕ → Bool) (words : ℕ) where
  pub marked_none : Marked p words (replicate words 0) 0
  marked_none = record { long = length-replicate {A = ℕ} words 0; at = λ i h. in_none words i ∙ sym (any_none (p i)) }

  -- in an empty set, none of the first n numbers having a mark
  pub marked_from : (m : List ℕ) (n : ℕ) → length m ≡ words → Clear m → ((i g : ℕ) → g < n → p i g ≡ false) → Marked p words m n
  marked_from m n e w h = record { long = e; at = λ i l. in_clear m i w ∙ sym (any_no (p i) n (h i)) }

  -- number n has no mark that the set could hold
  pub marked_skip : (m : List ℕ) (n : ℕ) → Marked p words m n → ((i : ℕ) → i / 32 < words → p i n ≡ false) → Marked p words m (n + 1)
  marked_skip m n w h = record { long = w.long; at = λ i l. rw (any_next (p i) n, h i l, either_false) (w.at i l) }

  -- number n has the mark x alone
  pub marked_more : (m : List ℕ) (n x : ℕ) → Marked p words m n → x / 32 < words → ((i : ℕ) → i / 32 < words → p i n ≡ eqb x i) → Marked p words (added m x) (n + 1)
  marked_more m n x w hx h =
      record {
        long = length_added m x ∙ w.long;
        at = λ i l. rw (any_next (p i) n, h i l) (entry i l);
      }
    where
      entry : (i : ℕ) → i / 32 < words → in_set (added m x) i ≡ either (any_to (p i) n) (eqb x i)
      entry i l =
          ⊎_elim (λ (e : eqb x i ≡ true). rw e (rw (either_true (any_to (p i) n), eqb-true x i e) (in_added_same m i (rw w.long l))))
          (λ (e : eqb x i ≡ false). rw e (rw (either_false (any_to (p i) n)) (in_added_other m x i (λ q. eqb-false x i e (sym q)) ∙ w.at i l)))
          (test_cases (eqb x i))
