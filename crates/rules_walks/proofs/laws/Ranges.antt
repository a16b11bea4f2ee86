-- What iterators over a range answer, in the words of walks: `all`, `any` and `count` over the numbers from 0 to before n.
use Rattle.std.specs.Prelude.{◌≡◌, Bool, true, false, ◌&&◌, ◌||◌, refl}
use Rattle.std.specs.Prelude.{List, Option}
use Rattle.std.specs.List.{list_all, list_any, range_with_len, FoldsTo}
use Rattle.std.specs.Fn.{Called}
use Rattle.std.specs.Iterator.{YieldsThen}
use Rattle.std.specs.Option.{MatchOption}
use Rattle.std.specs.declared.ops.Range.{Range}
use Rattle.std.proofs.iter.Yields.{nat_range_steps}
use Rattle.std.proofs.lemmas.Iterator.{YieldsList-from_range}
use Rattle.std.proofs.lemmas.Iterator.Search.{all_from_yields_List, any_from_yields_List}
use denote.Param.Members.{Mut}
use Rattle.std.proofs.Common.{sym, ◌∙◌, ap, arith, add-zero, zero-add, add-one}
use Prim.Native.Nat.{ℕ, zero, suc, ◌+◌, ◌<◌}
use Rattle.rules_walks.specs.Pick.{both, either}
use Rattle.rules_walks.specs.All.{all_to, any_to}
use Rattle.rules_walks.proofs.laws.All.{all_same, any_same}
use Rattle.rules_walks.proofs.laws.Pick.{both_true}

-- ---- a walk begun at its front
both_apart : (a b c : Bool) → both (both a b) c ≡ both a (both b c)
both_apart true b c = refl
both_apart false b c = refl

both_and : (a b c : Bool) → b ≡ c → a && b ≡ both a c
both_and true b c e = e
both_and false b c e = refl

all_front : (q : ℕ → Bool) (n : ℕ) → all_to q (suc n) ≡ both (q 0) (all_to (λ i. q (suc i)) n)
unfolding all_to
all_front q zero = sym (both_true (q 0))
all_front q (suc n) = ap (λ b. both b (q (suc n))) (all_front q n) ∙ both_apart (q 0) (all_to (λ i. q (suc i)) n) (q (suc n))

all_from : (p : ℕ → Bool) (a n : ℕ) → list_all p (range_with_len a n) ≡ all_to (λ i. p (a + i)) n
unfolding all_to
all_from p a zero = refl
all_from p a (suc n) =
    both_and (p a) _ _ (all_from p (a + 1) n ∙ all_same _ _ n (λ i l. ap p (omega arith)))
    ∙ sym (all_front (λ i. p (a + i)) n ∙ ap (λ (x : ℕ). both (p x) (all_to (λ i. p (a + suc i)) n)) (add-zero a))

-- `(0..n).all(p)`
pub all_range : (p : ℕ → Bool) (n : ℕ) → list_all p (range_with_len 0 n) ≡ all_to p n
all_range p n = all_from p 0 n ∙ all_same _ _ n (λ i l. ap p (zero-add i))

either_right_false : (b : Bool) → b ≡ either b false
either_right_false true = refl
either_right_false false = refl

either_apart : (a b c : Bool) → either (either a b) c ≡ either a (either b c)
either_apart true b c = refl
either_apart false b c = refl

either_or : (a b c : Bool) → b ≡ c → a || b ≡ either a c
either_or true b c e = refl
either_or false b c e = e

any_front : (q : ℕ → Bool) (n : ℕ) → any_to q (suc n) ≡ either (q 0) (any_to (λ i. q (suc i)) n)
unfolding any_to
any_front q zero = either_right_false (q 0)
any_front q (suc n) = ap (λ b. either b (q (suc n))) (any_front q n) ∙ either_apart (q 0) (any_to (λ i. q (suc i)) n) (q (suc n))

any_from : (p : ℕ → Bool) (a n : ℕ) → list_any p (range_with_len a n) ≡ any_to (λ i. p (a + i)) n
unfolding any_to
any_from p a zero = refl
any_from p a (suc n) =
    either_or (p a) _ _ (any_from p (a + 1) n ∙ any_same _ _ n (λ i l. ap p (omega arith)))
    ∙ sym (any_front (λ i. p (a + i)) n ∙ ap (λ (x : ℕ). either (p x) (any_to (λ i. p (a + suc i)) n)) (add-zero a))

-- `(0..n).any(p)`
pub any_range : (p : ℕ → Bool) (n : ℕ) → list_any p (range_with_len 0 n) ≡ any_to p n
any_range p n = any_from p 0 n ∙ any_same _ _ n (λ i l. ap p (zero-add i))

-- ---- the same for an answer: `ran` is what the call's contract says of it, `asks` that its closure computes p; m is the number that n was read from
module _ {F : Type 0} {p : ℕ → Bool} {n : ℕ} {u : Range ℕ} {f : F} {r : Bool} where
  pub all_in : {g : Mut F (ℕ × Unit {0}) Bool}
      → (xs : List ℕ) × (o : Option ℕ) × (j : F) × YieldsThen nat_range_steps (record { start = 0; end = n }) xs o u × FoldsTo (λ p' x q. Called g p' (x, tt) true q) f xs j × MatchOption o (r ≡ true) (λ x. (r ≡ false) × ((h : F) × Called g j (x, tt) false h))
      → ((x : ℕ) (b : Bool) (q : F) → Called g f (x, tt) b q → (q ≡ f) × (b ≡ p x)) → {m : ℕ} → n ≡ m → r ≡ all_to p m
  all_in ran asks e = rw (← e) (all_from_yields_List p _ _ _ ran (YieldsList-from_range 0 n n refl (omega arith)) asks ∙ all_range p n)

  pub any_in : {g : Mut F (ℕ × Unit {0}) Bool}
      → (xs : List ℕ) × (o : Option ℕ) × (j : F) × YieldsThen nat_range_steps (record { start = 0; end = n }) xs o u × FoldsTo (λ p' x q. Called g p' (x, tt) false q) f xs j × MatchOption o (r ≡ false) (λ x. (r ≡ true) × ((h : F) × Called g j (x, tt) true h))
      → ((x : ℕ) (b : Bool) (q : F) → Called g f (x, tt) b q → (q ≡ f) × (b ≡ p x)) → {m : ℕ} → n ≡ m → r ≡ any_to p m
  any_in ran asks e = rw (← e) (any_from_yields_List p _ _ _ ran (YieldsList-from_range 0 n n refl (omega arith)) asks ∙ any_range p n)
