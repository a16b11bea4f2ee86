-- The k-th frame of an owner is found along its chain: the first where the owner's entry leads, the next where the frame's entry leads.
use Rattle.std.specs.Prelude.{◌≡◌, refl, List, Bool, true, false, ℕ, zero, suc, ◌+◌, ◌≤◌, ◌<◌}
use Rattle.std.proofs.Common.{sym, ap, ◌∙◌, ⊎_elim, arith, add-one}
use Rattle.rules_walks.proofs.laws.Pick.{clash, test_cases, tri}
use Rattle.rules_walks.specs.Count.{count_if}
use Rattle.rules_walks.proofs.laws.Count.{count_none, count_hit, count_miss, count_mono}
use Rattle.rules_walks.specs.First.{Sought, one, missing}
use Rattle.rules_walks.proofs.laws.First.{first_in}
use Rattle.rules_tables.specs.Owned.{belongs, rank, is_nth, nth}
use Rattle.rules_tables.proofs.laws.Owned.{nth_own, nth_belongs, nth_rank}
use Rattle.table_index.specs.Leads.{Leads, or_end}
use Rattle.table_index.proofs.laws.Leads.{leads_count}

module _ (T : List ℕ) (first n g x : ℕ) where
  -- where a search for the k-th is led to: all of them before a have a rank below k, and the one at b has rank k
  found : (k a b : ℕ) → Leads (belongs T first g x) a b n → rank T first g x a ≡ k → or_end n (nth T first n g x k) ≡ b
  found k a b l r =
      ⊎_elim (λ lt. met lt) (λ y. ⊎_elim (λ e. none e (nth T first n g x k) refl) (λ gt. absurd (let w = l.within in omega arith)) y) (tri b n)
    where
      same : rank T first g x b ≡ k
      same = leads_count l ∙ r

      met : b < n → or_end n (nth T first n g x k) ≡ b
      met lt = ap (or_end n) (rw same at (nth_own T first n g x b lt (l.met lt)))

      none : b ≡ n → (y : Sought) → nth T first n g x k ≡ y → or_end n y ≡ b
      none e missing q = sym e
      none e (one v) q =
          let h = nth_belongs T first n g x k v q in
          let m = nth_rank T first n g x k v q in
          let z = first_in (is_nth T first g x k) 0 n v q in
          ⊎_elim
          (λ (lt : v < a).
          absurd (let c = count_hit (belongs T first g x) v h in let d = count_mono (belongs T first g x) (v + 1) a (omega arith) in omega arith))
          (λ y. clash (sym (l.skipped v (⊎_elim (λ z. omega arith) (λ z. omega arith) y) (omega arith)) ∙ h))
          (tri v a)

  pub nth_first : (b : ℕ) → Leads (belongs T first g x) 0 b n → b ≡ or_end n (nth T first n g x 0)
  nth_first b l = sym (found 0 0 b l (count_none (belongs T first g x)))

  pub nth_next : (k j b : ℕ) → nth T first n g x k ≡ one j → Leads (belongs T first g x) (j + 1) b n → b ≡ or_end n (nth T first n g x (k + 1))
  nth_next k j b e l =
      sym (found (k + 1) (j + 1) b l (count_hit (belongs T first g x) j (nth_belongs T first n g x k j e) ∙ ap (λ (m : ℕ). m + 1) (nth_rank T first n g x k j e)))

  -- a count of k + 1 has passed a number with k before it
  reached : (p : ℕ → Bool) (k v : ℕ) → ((j : ℕ) → j < v → p j ≡ true → count_if p j ≡ k → ⊥) → count_if p v ≡ k + 1 → ⊥
  reached p k zero h e = let z = count_none p in omega arith
  reached p k (suc v) h e =
      ⊎_elim (λ (q : p v ≡ true). h v (omega arith) q (let c = count_hit p v q in let d : count_if p (v + 1) ≡ k + 1 = rw (add-one v) e in omega arith))
      (λ (q : p v ≡ false). reached p k v (λ j l. h j (omega arith)) (let c = count_miss p v q in let d : count_if p (v + 1) ≡ k + 1 = rw (add-one v) e in omega arith))
      (test_cases (p v))

  pub nth_none : (k : ℕ) → nth T first n g x k ≡ missing → nth T first n g x (k + 1) ≡ missing
  nth_none k e = by (nth T first n g x (k + 1)) refl
    where
      apart : {a : ℕ} → missing ≡ one a → ⊥
      apart q = let z : ◌≡◌ {A = ℕ} 0 1 = cc in omega arith

      by : (y : Sought) → nth T first n g x (k + 1) ≡ y → y ≡ missing
      by missing q = refl
      by (one v) q =
          absurd
          (reached (belongs T first g x) k v
          (λ j l h r. apart (sym e ∙ (rw r at (nth_own T first n g x j (let z = first_in (is_nth T first g x (k + 1)) 0 n v q in omega arith) h))))
          (nth_rank T first n g x (k + 1) v q))

  -- an answer as one number
  pub nth_at : (k : ℕ) {j : ℕ} → j ≡ or_end n (nth T first n g x k) → j < n → nth T first n g x k ≡ one j
  nth_at k {j} e l = by (nth T first n g x k) refl
    where
      by : (y : Sought) → nth T first n g x k ≡ y → y ≡ one j
      by (one v) q = ap one (let h : j ≡ v = e ∙ ap (or_end n) q in sym h)
      by missing q = absurd (let h : j ≡ n = e ∙ ap (or_end n) q in omega arith)

  pub nth_past : (k : ℕ) {j : ℕ} → j ≡ or_end n (nth T first n g x k) → n ≤ j → nth T first n g x k ≡ missing
  nth_past k {j} e l = by (nth T first n g x k) refl
    where
      by : (y : Sought) → nth T first n g x k ≡ y → y ≡ missing
      by (one v) q = absurd (let h : j ≡ v = e ∙ ap (or_end n) q in let z = first_in (is_nth T first g x k) 0 n v q in omega arith)
      by missing q = refl

  -- after a number that there is not come none
  pub nth_later : (k m : ℕ) → nth T first n g x k ≡ missing → nth T first n g x (k + m) ≡ missing
  nth_later k zero e = let z : k + 0 ≡ k = omega arith in rw z e
  nth_later k (suc m) e = let z : k + suc m ≡ k + m + 1 = omega arith in rw z (nth_none (k + m) (nth_later k m e))
