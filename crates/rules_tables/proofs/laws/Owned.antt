-- Laws of the k-th frame: a frame that belongs is the one that its rank says, and the next one after it is the first of those behind it.
use Rattle.std.specs.Prelude.{◌≡◌, refl, List, Bool, true, false, ℕ, zero, suc, ◌≤◌, ◌<◌, eqb}
use Rattle.std.proofs.Common.{sym, ap, ◌∙◌, arith}
use borrow.Author.Tests.{eq-eqb, ne_eqb, eqb-true}
use Rattle.rules_walks.specs.Pick.{both}
use Rattle.rules_walks.proofs.laws.Pick.{both_true, both_left, both_right, both_intro}
use Rattle.rules_walks.specs.Count.{count_if}
use Rattle.rules_walks.proofs.laws.Count.{count_past}
use Rattle.rules_walks.specs.First.{one, missing}
use Rattle.rules_walks.proofs.laws.First.{first_true, first_is, first_missing}
use Rattle.rules_tables.specs.Owned.{belongs, rank, is_nth, nth}

-- a frame that belongs to x is the one with as many of them before it
pub nth_own : (T : List ℕ) (first n g x j : ℕ) → j < n → belongs T first g x j ≡ true → nth T first n g x (rank T first g x j) ≡ one j
unfolding is_nth
nth_own T first n g x j l h =
    first_is (is_nth T first g x (rank T first g x j)) 0 n j
    (record {
      from = omega arith;
      below = omega arith;
      passes = both_intro (belongs T first g x j) (eqb (rank T first g x j) (rank T first g x j)) h (eq-eqb (rank T first g x j) (rank T first g x j) refl);
      least = λ i _ q. before i q (belongs T first g x i) refl;
    })
  where
    before : (i : ℕ) → i < j → (b : Bool) → belongs T first g x i ≡ b → both b (eqb (rank T first g x i) (rank T first g x j)) ≡ false
    before i q true e = ne_eqb (rank T first g x i) (rank T first g x j) (λ z. let c = count_past (belongs T first g x) i j q e in omega arith)
    before i q false e = refl

-- where there is no first one, none belongs to x
pub nth_none : (T : List ℕ) (first n g x : ℕ) → nth T first n g x 0 ≡ missing → (j : ℕ) → j < n → belongs T first g x j ≡ false
unfolding is_nth count_if
nth_none T first n g x e j l = no j l (before j (omega arith))
  where
    no : (j : ℕ) → j < n → rank T first g x j ≡ 0 → belongs T first g x j ≡ false
    no j l z =
        let h = first_missing (is_nth T first g x 0) 0 n e j (omega arith) (omega arith) in
        let b = belongs T first g x j in
        sym (both_true b) ∙ ap (both b) (sym (eq-eqb (rank T first g x j) 0 z)) ∙ h

    before : (j : ℕ) → j ≤ n → rank T first g x j ≡ 0
    before zero l = refl
    before (suc j) l = let z = before j (omega arith) in rw (no j (omega arith) z) z

-- what an answer says
module _ (T : List ℕ) (first n g x k j : ℕ) (found : nth T first n g x k ≡ one j) where
  pub nth_belongs : belongs T first g x j ≡ true
  unfolding is_nth
  nth_belongs = both_left (belongs T first g x j) (eqb (rank T first g x j) k) (first_true (is_nth T first g x k) 0 n j found)

  pub nth_rank : rank T first g x j ≡ k
  unfolding is_nth
  nth_rank = eqb-true _ _ (both_right (belongs T first g x j) (eqb (rank T first g x j) k) (first_true (is_nth T first g x k) 0 n j found))
