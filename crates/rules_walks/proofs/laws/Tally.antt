-- How a tally grows, number by number.
use Rattle.std.specs.Prelude.{◌≡◌, ◌⊎◌, ℕ, ◌+◌, ◌≤◌, ◌<◌, ltb, set, replicate}
use Rattle.std.proofs.Common.{sym, ◌∙◌, ⊎_elim, arith, get_or-set_same}
use Rattle.std.proofs.Math.Path.{ap}
use mathlib.Core.List.{List}
use Rattle.std.proofs.Math.Dec.{eqb}
use Rattle.std.proofs.Math.ListN.{length, get_or, length-set, get_or-eq_default}
use Rattle.std.proofs.lemmas.List.{length-replicate, get_or-replicate}
use Rattle.std.proofs.Math.Seq.{get_or-set_other}
use borrow.Author.Tests.{lt-ltb, ne_eqb, eqb-true, eqb-false}
use Rattle.rules_walks.specs.Pick.{pick}
use Rattle.rules_walks.proofs.laws.Pick.{by_test, tri}
use Rattle.rules_walks.proofs.laws.Count.{count_none, count_next, count_le, count_rest}
use Rattle.rules_walks.specs.Tally.{tally_to, Tallied, plus_at}

module _ (key : ℕ → ℕ) (size : ℕ) where
  pub tallied_none : Tallied key size (replicate size 0) 0
  tallied_none = record { long = length-replicate {A = ℕ} size 0; at = λ i h. get_or-replicate size i 0 0 h ∙ sym (count_none (λ f. eqb (key f) i)) }

  -- one number more: its key's entry goes up by one, if there is one
  pub tallied_more : (m : List ℕ) (n : ℕ) → Tallied key size m n → Tallied key size (plus_at m (key n)) (n + 1)
  unfolding plus_at
  tallied_more m n w =
      record {
        long = by_test (λ (l : List ℕ). length l ≡ size) (ltb (key n) (length m)) _ _ (λ _. simp length-set w.long) (λ _. w.long);
        at = λ i h. entry i h;
      }
    where
      entry : (i : ℕ) → i < size → get_or (pick (ltb (key n) (length m)) (set m (key n) (get_or m (key n) 0 + 1)) m) i 0 ≡ tally_to key i (n + 1)
      entry i h =
          rw (count_next (λ f. eqb (key f) i) n)
          (by_test (λ (x : ℕ). get_or (pick (ltb (key n) (length m)) (set m (key n) (get_or m (key n) 0 + 1)) m) i 0 ≡ x) (eqb (key n) i) _ _
          (λ e. rw (eqb-true (key n) i e, lt-ltb i (length m) (omega (arith, w.long))) (get_or-set_same m i _ 0 (omega (arith, w.long)) ∙ ap (λ (x : ℕ). x + 1) (w.at i h)))
          (λ e.
          by_test (λ (l : List ℕ). get_or l i 0 ≡ tally_to key i n) (ltb (key n) (length m)) _ _
          (λ _. get_or-set_other m (key n) i _ 0 (λ z. eqb-false (key n) i e (sym z)) ∙ w.at i h) (λ _. w.at i h)))

  -- numbers whose keys have no entry add nothing
  pub tallied_rest : (m : List ℕ) (a n : ℕ) → a ≤ n → ((i : ℕ) → a ≤ i → i < n → size ≤ key i) → Tallied key size m a → Tallied key size m n
  tallied_rest m a n l h w =
      record {
        long = w.long;
        at = λ i q. w.at i q ∙ sym (count_rest (λ f. eqb (key f) i) a n l (λ f x y. ne_eqb (key f) i (λ e. let z = h f x y in omega arith)));
      }

  -- no entry is above the number of numbers, also where there is no entry
  pub tallied_small : (m : List ℕ) (n i : ℕ) → Tallied key size m n → get_or m i 0 ≤ n
  tallied_small m n i w =
      ⊎_elim (λ h. rw (w.at i h) (count_le (λ f. eqb (key f) i) n))
      (λ h. rw (get_or-eq_default m 0 {n = i} (past h)) (omega arith))
      (tri i size)
    where
      past : (i ≡ size) ⊎ (size < i) → length m ≤ i
      past h = ⊎_elim (λ e. omega (arith, w.long)) (λ g. omega (arith, w.long)) h
