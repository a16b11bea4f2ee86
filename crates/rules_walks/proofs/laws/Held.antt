-- Laws of how many numbers pass before the first that fails: two passes, the second over what the first left, are one.
use Rattle.std.specs.Prelude.{◌≡◌, Bool, true, false, eqb}
use Rattle.std.proofs.Math.Path.{refl}
use Rattle.std.proofs.Common.{sym, ap, ◌∙◌, ⊎_elim, eq-or-lt_of_le, le_of_suc-le-suc, not-suc-le-zero, arith, eq-eqb, ne_eqb}
use Prim.Native.Nat.{ℕ, zero, suc, ◌<◌}
use Rattle.rules_walks.specs.Pick.{pick, both}
use Rattle.rules_walks.proofs.laws.Pick.{both_intro, clash, tri}
use Rattle.rules_walks.specs.All.{all_to}
use Rattle.rules_walks.proofs.laws.All.{all_at, all_intro}
use Rattle.rules_walks.specs.Held.{held_to, Held}

module _ (p : ℕ → Bool) where
  held_suc : (n : ℕ) → held_to p (suc n) ≡ pick (both (eqb (held_to p n) n) (p n)) (suc n) (held_to p n)
  unfolding held_to
  held_suc n = refl

  more : (n h : ℕ) → Held p n h → Held p (suc n) (pick (both (eqb h n) (p n)) (suc n) h)
  more n h w =
      ⊎_elim (λ l. rw (ne_eqb h n (λ e. omega arith)) (record { within = omega arith; before = w.before; stopped = λ _. w.stopped l }))
      (⊎_elim (λ e. rw (eq-eqb h n e) (at_end e (p n) refl)) (λ g. absurd (let q = w.within in omega arith))) (tri h n)
    where
      at_end : h ≡ n → (b : Bool) → p n ≡ b → Held p (suc n) (pick b (suc n) h)
      at_end e true q =
          record {
            within = omega arith;
            before = λ i l. ⊎_elim (λ z. ap p z ∙ q) (λ lt. w.before i (omega arith)) (eq-or-lt_of_le (le_of_suc-le-suc l));
            stopped = λ l. absurd (omega arith);
          }
      at_end e false q = record { within = omega arith; before = w.before; stopped = λ l. ap p e ∙ q }

  -- what the number means
  pub held : (n : ℕ) → Held p n (held_to p n)
  unfolding held_to
  held zero = record { within = omega arith; before = λ i l. absurd (not-suc-le-zero l); stopped = λ l. absurd (not-suc-le-zero l) }
  held (suc n) = more n (held_to p n) (held n)

  -- what is known of the number that a pass answers
  pub held_means : (n m : ℕ) → m ≡ held_to p n → Held p n m
  held_means n m e = rw e (held n)

  pub held_all : (n m : ℕ) → m ≡ held_to p n → all_to p m ≡ true
  held_all n m e = all_intro p m (held_means n m e).before

  -- and it is the only one
  pub held_one : (n a b : ℕ) → Held p n a → Held p n b → a ≡ b
  held_one n a b v w =
      ⊎_elim (λ l. clash (sym (v.stopped (let q = w.within in omega arith)) ∙ w.before a l))
      (⊎_elim (λ e. e) (λ l. clash (sym (w.stopped (let q = v.within in omega arith)) ∙ v.before b l))) (tri a b)

  pub held_is : (n m : ℕ) → Held p n m → m ≡ held_to p n
  held_is n m w = held_one n m (held_to p n) w (held n)

  -- a loop that leaves at the first failure, and one that runs to its end
  pub held_stop : (n f : ℕ) → f < n → all_to p f ≡ true → p f ≡ false → f ≡ held_to p n
  held_stop n f l h e = held_is n f (record { within = omega arith; before = λ i q. all_at p f i q h; stopped = λ _. e })

  pub held_end : (n : ℕ) → all_to p n ≡ true → n ≡ held_to p n
  held_end n h = held_is n n (record { within = omega arith; before = λ i q. all_at p n i q h; stopped = λ l. absurd (omega arith) })

-- tests that agree below the bound stop at the same number
pub held_same : (p q : ℕ → Bool) (n : ℕ) → ((i : ℕ) → i < n → p i ≡ q i) → held_to p n ≡ held_to q n
held_same p q n h =
    let w = held p n in
    held_is q n (held_to p n)
    (record {
      within = w.within;
      before = λ i l. sym (h i (let a = w.within in omega arith)) ∙ w.before i l;
      stopped = λ l. sym (h (held_to p n) l) ∙ w.stopped l;
    })

-- two passes, the second over what the first left, are one pass with both tests
pub held_both : (p q : ℕ → Bool) (n : ℕ) → held_to q (held_to p n) ≡ held_to (λ i. both (p i) (q i)) n
held_both p q n = held_is (λ i. both (p i) (q i)) n (held_to q (held_to p n)) (join (held p n) (held q (held_to p n)))
  where
    stop : (a : ℕ) → Held p n (held_to p n) → Held q (held_to p n) a → a < n → both (p a) (q a) ≡ false
    stop a v w l =
        ⊎_elim (λ lt. rw (v.before a lt) (w.stopped lt))
        (⊎_elim (λ (e : a ≡ held_to p n). rw (ap p e ∙ v.stopped (rw (← e) l))) (λ (g : held_to p n < a). absurd (let z = w.within in omega arith))) (tri a (held_to p n))

    join : Held p n (held_to p n) → Held q (held_to p n) (held_to q (held_to p n)) → Held (λ i. both (p i) (q i)) n (held_to q (held_to p n))
    join v w =
        record {
          within = let a = v.within in let b = w.within in omega arith;
          before = λ i l. both_intro (p i) (q i) (v.before i (let b = w.within in omega arith)) (w.before i l);
          stopped = stop (held_to q (held_to p n)) v w;
        }
