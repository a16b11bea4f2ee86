-- The event that is taken next waits, and no waiting event comes before it: by last update, element priority and local priority.
use Rattle.std.specs.Prelude.{◌≡◌, List, Bool, ◌⊎◌, ℕ, suc, ◌≤◌, ◌<◌}
use Rattle.std.proofs.Math.Path.{refl}
use Rattle.std.proofs.Common.{sym, ◌∙◌, eq-or-lt_of_le, le_of_suc-le-suc, not-suc-le-zero, arith}
use Rattle.std.proofs.Math.Bool.{true, false}
use Rattle.std.proofs.Math.Logic.{inl, inr, ⊎_elim}
use Rattle.std.proofs.Math.Dec.{eqb, ltb}
use borrow.Author.Tests.{eqb-true, eqb-false, ltb-true, ltb-false}
use Rattle.rules_walks.specs.Pick.{pick}
use Rattle.rules_walks.proofs.laws.Pick.{test_cases}
use Rattle.rules_walks.proofs.laws.Choose.{choose_true, choose_false}
use Rattle.rules_walks.proofs.laws.Walk.{up_to_carries}
use Rattle.rules_tables.specs.declared.Shape.{Shape}
use Rattle.rules_tables.specs.Ids.{inputs}
use Rattle.rules_store.specs.Word.{waiting, last_update}
use Rattle.rules_moves.specs.declared.Key.{Key}
use Rattle.rules_moves.specs.Least.{Best}
use Rattle.std.specs.Prelude.{Some, None}
use Rattle.rules_moves.specs.Least.{key_of, beats, better, look, least}
use Rattle.rules_moves.specs.Order.{NoLater, Least}

-- ---- the order of keys
pub no_later_same : (k : Key) → NoLater k k
no_later_same k = inr (refl, inr (refl, omega arith))

pub no_later_then : (k h g : Key) → NoLater k h → NoLater h g → NoLater k g
no_later_then k h g =
    ⊎_elim (λ a. ⊎_elim (λ b. inl (omega arith)) (λ b. inl (let e = b.0 in omega arith)))
    (λ a. ⊎_elim (λ b. inl (let e = a.0 in omega arith)) (λ b. inr (a.0 ∙ b.0, within a.1 b.1)))
  where
    within : (k.priority < h.priority) ⊎ ((k.priority ≡ h.priority) × (k.local ≤ h.local)) → (h.priority < g.priority) ⊎ ((h.priority ≡ g.priority) × (h.local ≤ g.local))
        → (k.priority < g.priority) ⊎ ((k.priority ≡ g.priority) × (k.local ≤ g.local))
    within =
        ⊎_elim (λ a. ⊎_elim (λ b. inl (omega arith)) (λ b. inl (let e = b.0 in omega arith)))
        (λ a. ⊎_elim (λ b. inl (let e = a.0 in omega arith)) (λ b. inr (a.0 ∙ b.0, let x = a.1 in let y = b.1 in omega arith)))

-- the comparison is that order: the one that beats comes no later, and so does the one that is not beaten
module _ (k h : Key) where
  pub beats_no_later : beats k h ≡ true → NoLater k h
  unfolding beats
  beats_no_later = by (eqb k.last h.last) (eqb k.priority h.priority) refl refl
    where
      by : (a b : Bool) → eqb k.last h.last ≡ a → eqb k.priority h.priority ≡ b
          → pick a (pick b (ltb k.local h.local) (ltb k.priority h.priority)) (ltb k.last h.last) ≡ true → NoLater k h
      by true true e f q = inr (eqb-true _ _ e, inr (eqb-true _ _ f, let z = ltb-true k.local h.local q in omega arith))
      by true false e f q = inr (eqb-true _ _ e, inl (ltb-true _ _ q))
      by false b e f q = inl (ltb-true _ _ q)

  pub beaten_no_later : beats k h ≡ false → NoLater h k
  unfolding beats
  beaten_no_later = by (eqb k.last h.last) (eqb k.priority h.priority) refl refl
    where
      other : (x y : ℕ) → eqb x y ≡ false → ltb x y ≡ false → y < x
      other x y e q = ⊎_elim (λ z. absurd (eqb-false x y e (sym z))) (λ z. z) (eq-or-lt_of_le (ltb-false x y q))

      by : (a b : Bool) → eqb k.last h.last ≡ a → eqb k.priority h.priority ≡ b
          → pick a (pick b (ltb k.local h.local) (ltb k.priority h.priority)) (ltb k.last h.last) ≡ false → NoLater h k
      by true true e f q = inr (sym (eqb-true _ _ e), inr (sym (eqb-true _ _ f), ltb-false _ _ q))
      by true false e f q = inr (sym (eqb-true _ _ e), inl (other k.priority h.priority f q))
      by false b e f q = inl (other k.last h.last e q)

pub no_later_last : (k h : Key) → NoLater k h → k.last ≤ h.last
no_later_last k h = ⊎_elim (λ a. omega arith) (λ a. let e = a.0 in omega arith)

-- ---- the walk
module _ (T : List ℕ) (S : Shape) (s : List ℕ) where
  -- what the walk has found among the first n
  abbrev Found : ℕ → Best → Type 0
  Found n None = (c : ℕ) → c < n → waiting S s c ≡ 0
  Found n (Some (i, k)) = Least T S s n i × (k ≡ key_of T S s i)

  later : (n : ℕ) (x : Best) → waiting S s n ≡ 0 → Found n x → Found (suc n) x
  later n None z w = λ c l. ⊎_elim (λ e. rw e z) (λ b. w c b) (eq-or-lt_of_le (le_of_suc-le-suc l))
  later n (Some (i, k)) z w =
      let a = w.0 in (
        record {
          inside = let q = a.inside in omega arith;
          waits = a.waits;
          first = λ c l h. ⊎_elim (λ e. absurd (h (rw e z))) (λ b. a.first c b h) (eq-or-lt_of_le (le_of_suc-le-suc l));
        },
        w.1,
      )

  against : (n : ℕ) (x : Best) → (waiting S s n ≡ 0 → ⊥) → Found n x → Found (suc n) (better n (key_of T S s n) x)
  unfolding better
  against n None h w = (
    record {
      inside = omega arith;
      waits = h;
      first = λ c l q. ⊎_elim (λ e. rw e (no_later_same (key_of T S s n))) (λ b. absurd (q (w c b))) (eq-or-lt_of_le (le_of_suc-le-suc l));
    },
    refl,
  )
  against n (Some (i, k)) h w = by (beats (key_of T S s n) k) refl
    where
      by : (b : Bool) → beats (key_of T S s n) k ≡ b → Found (suc n) (pick b (Some (n, key_of T S s n)) (Some (i, k)))
      by true e =
          let m : NoLater (key_of T S s n) (key_of T S s i) = rw w.1 at (beats_no_later (key_of T S s n) k e) in (
            record {
              inside = omega arith;
              waits = h;
              first =
                  λ c l q.
                  ⊎_elim (λ z. rw z (no_later_same (key_of T S s n)))
                  (λ z. no_later_then (key_of T S s n) (key_of T S s i) (key_of T S s c) m (w.0.first c z q)) (eq-or-lt_of_le (le_of_suc-le-suc l));
            },
            refl,
          )
      by false e =
          let m : NoLater (key_of T S s i) (key_of T S s n) = rw w.1 at (beaten_no_later (key_of T S s n) k e) in
          let a = w.0 in (
            record {
              inside = let q = a.inside in omega arith;
              waits = a.waits;
              first = λ c l q. ⊎_elim (λ z. rw z m) (λ z. a.first c z q) (eq-or-lt_of_le (le_of_suc-le-suc l));
            },
            w.1,
          )

  looked : (n : ℕ) (x : Best) → Found n x → Found (suc n) (look T S s n x)
  unfolding look
  looked n x w =
      ⊎_elim (λ e. rw (choose_true (eqb (waiting S s n) 0) x (better n (key_of T S s n) x) e) (later n x (eqb-true (waiting S s n) 0 e) w))
      (λ e. rw (choose_false (eqb (waiting S s n) 0) x (better n (key_of T S s n) x) e) (against n x (eqb-false (waiting S s n) 0 e) w)) (test_cases (eqb (waiting S s n) 0))

  found : Found (inputs S) (least T S s)
  unfolding least
  found = up_to_carries (λ (n : ℕ) (x : Best). Found n x) (look T S s) (inputs S) None (λ n l x w. looked n x w) (λ c l. absurd (not-suc-le-zero l))

  pub least_means : (i : ℕ) (k : Key) → least T S s ≡ Some (i, k) → Least T S s (inputs S) i
  least_means i k e = let w : Found (inputs S) (Some (i, k)) = rw e at found in w.0

  pub least_none : least T S s ≡ None → (c : ℕ) → c < inputs S → waiting S s c ≡ 0
  least_none e = let w : Found (inputs S) None = rw e at found in w

  -- no waiting event has an earlier last update
  pub least_before : (n i : ℕ) → Least T S s n i → (c : ℕ) → c < n → (waiting S s c ≡ 0 → ⊥) → last_update S s i ≤ last_update S s c
  least_before n i w c l h = no_later_last (key_of T S s i) (key_of T S s c) (w.first c l h)
