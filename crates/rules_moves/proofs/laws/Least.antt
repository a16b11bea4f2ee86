-- The least waiting event is one of the table's event inputs.
use Rattle.std.specs.Prelude.{◌≡◌, List, Bool, true, ℕ, suc, ◌<◌, eqb, ltb}
use Rattle.std.proofs.Math.Path.{refl}
use Rattle.std.proofs.Common.{sym, ap, ◌∙◌, arith}
use borrow.Author.Tests.{ltb-true, lt-ltb}
use Rattle.rules_walks.proofs.laws.Pick.{by_test}
use Rattle.rules_walks.proofs.laws.Choose.{by_choose}
use Rattle.rules_walks.proofs.laws.Walk.{up_to_carries}
use Rattle.rules_tables.specs.declared.Shape.{Shape}
use Rattle.rules_tables.specs.Ids.{inputs}
use Rattle.rules_store.specs.Word.{waiting}
use Rattle.rules_moves.specs.declared.Key.{Key}
use Rattle.rules_moves.specs.Least.{Best}
use Rattle.std.specs.Prelude.{Some, None}
use Rattle.rules_moves.specs.Least.{key_of, beats, better, look, least}

abbrev below : ℕ → Best → Bool
below n None = true
below n (Some (i, k)) = ltb i n

grows : (n : ℕ) (x : Best) → below n x ≡ true → below (suc n) x ≡ true
grows n None e = refl
grows n (Some (i, k)) e = let h = ltb-true i n e in lt-ltb i (suc n) (omega arith)

better_below : (n : ℕ) (k : Key) (x : Best) → below n x ≡ true → below (suc n) (better n k x) ≡ true
unfolding better
better_below n k None e = lt-ltb n (suc n) (omega arith)
better_below n k (Some (i, h)) e =
    by_test (λ (y : Best). below (suc n) y ≡ true) (beats k h) (Some (n, k)) (Some (i, h)) (λ _. lt-ltb n (suc n) (omega arith)) (λ _. grows n (Some (i, h)) e)

module _ (T : List ℕ) (S : Shape) (s : List ℕ) where
  look_below : (n : ℕ) (x : Best) → below n x ≡ true → below (suc n) (look T S s n x) ≡ true
  unfolding look
  look_below n x e =
      by_choose (λ (y : Best). below (suc n) y ≡ true) (eqb (waiting S s n) 0) x (better n (key_of T S s n) x) (λ _. grows n x e) (λ _. better_below n (key_of T S s n) x e)

  pub least_in : (i : ℕ) (k : Key) → least T S s ≡ Some (i, k) → i < inputs S
  unfolding least
  least_in i k e =
      let h = up_to_carries (λ (n : ℕ) (x : Best). below n x ≡ true) (look T S s) (inputs S) None (λ j l x p. look_below j x p) refl in
      ltb-true i (inputs S) (sym (ap (below (inputs S)) e) ∙ h)
