-- What `all` over the numbers from a on answers, in the words of walks, where those before a pass.
use Rattle.std.specs.Prelude.{◌≡◌, Bool, true, false, ◌&&◌}
use Rattle.std.specs.Prelude.{List, Option}
use Rattle.std.specs.List.{list_all, range_with_len, FoldsTo}
use Rattle.std.specs.Fn.{Called}
use Rattle.std.specs.Iterator.{YieldsThen}
use Rattle.std.specs.Option.{MatchOption}
use Rattle.std.specs.declared.ops.Range.{Range}
use Rattle.std.proofs.iter.Yields.{nat_range_steps}
use Rattle.std.proofs.lemmas.Iterator.{YieldsList-from_range}
use Rattle.std.proofs.lemmas.Iterator.Search.{all_from_yields_List}
use denote.Param.Members.{Mut}
use Rattle.std.proofs.Common.{refl, sym, ⊎_elim, eq-or-lt_of_le, arith}
use Prim.Native.Nat.{ℕ, zero, suc, ◌+◌, ◌-◌, ◌≤◌, ◌<◌}
use Rattle.rules_walks.specs.All.{all_to}
use Rattle.rules_walks.proofs.laws.All.{all_intro, all_stop}

-- `(a..m).all(p)`
pub all_between : (p q : ℕ → Bool) (n a m : ℕ) → m - a ≡ n → ((i : ℕ) → i < a → q i ≡ true) → ((i : ℕ) → a ≤ i → i < m → q i ≡ p i)
    → list_all p (range_with_len a n) ≡ all_to q m
all_between p q zero a m e h s = sym (all_intro q m (λ i l. h i (omega arith)))
all_between p q (suc n) a m e h s =
    by (p a) (s a (omega arith) (omega arith)) (λ x. all_between p q n (a + 1) m (omega arith) (before x) (λ i l k. s i (omega arith) k))
  where
    before : q a ≡ true → (i : ℕ) → i < a + 1 → q i ≡ true
    before x i l = ⊎_elim (λ z. rw z x) (λ lt. h i lt) (eq-or-lt_of_le (let y : i ≤ a = omega arith in y))

    by : (b : Bool) → q a ≡ b → (q a ≡ true → list_all p (range_with_len (a + 1) n) ≡ all_to q m) → b && list_all p (range_with_len (a + 1) n) ≡ all_to q m
    by true x rest = rest x
    by false x rest = sym (all_stop q m a (omega arith) x)

-- the same for an answer: `ran` is what the call's contract says of it, `asks` that its closure computes p
pub all_over : {F : Type 0} {p : ℕ → Bool} {a m : ℕ} {u : Range ℕ} {f : F} {r : Bool} {g : Mut F (ℕ × Unit {0}) Bool}
    → (xs : List ℕ) × (o : Option ℕ) × (j : F) × YieldsThen nat_range_steps (record { start = a; end = m }) xs o u × FoldsTo (λ p' x q. Called g p' (x, tt) true q) f xs j × MatchOption o (r ≡ true) (λ x. (r ≡ false) × ((h : F) × Called g j (x, tt) false h))
    → ((x : ℕ) (b : Bool) (q : F) → Called g f (x, tt) b q → (q ≡ f) × (b ≡ p x)) → r ≡ list_all p (range_with_len a (m - a))
all_over {p = p} {a = a} {m = m} ran asks = all_from_yields_List p _ _ _ ran (YieldsList-from_range a m _ refl refl) asks
