-- Laws of a search that goes on where it is led to: what is left out changes nothing. One law each for a walk, for a search and for a count.
use Rattle.std.specs.Prelude.{◌≡◌, refl, Bool, false, ℕ, zero, suc, ◌+◌, ◌-◌, ◌≤◌, ◌<◌}
use Rattle.std.proofs.Common.{sym, ◌∙◌, ⊎_elim, eq-or-lt_of_le, le_of_suc-le-suc, arith, add-one}
use Rattle.rules_walks.specs.Walk.{up_to}
use Rattle.rules_walks.proofs.laws.Walk.{up_to_none, up_to_more}
use Rattle.rules_walks.specs.Count.{count_if}
use Rattle.rules_walks.proofs.laws.Count.{count_rest}
use Rattle.rules_walks.specs.First.{first_from}
use Rattle.rules_walks.proofs.laws.First.{first_skip}
use Rattle.table_index.specs.Leads.{Leads}

-- steps from a to b that change nothing
still : {A : Type 0} (f : ℕ → A → A) (s : A) (a b : ℕ) → a ≤ b → ((j : ℕ) → a ≤ j → j < b → (x : A) → f j x ≡ x) → up_to f b s ≡ up_to f a s
unfolding up_to
still f s a zero l h = let e : a ≡ 0 = omega arith in rw e refl
still f s a (suc b) l h =
    ⊎_elim (λ e. rw e refl)
    (λ lt. h b (le_of_suc-le-suc lt) (omega arith) (up_to f b s) ∙ still f s a b (le_of_suc-le-suc lt) (λ j p q x. h j p (omega arith) x))
    (eq-or-lt_of_le l)

-- numbers from a to b that do not pass
passed_by : (q : ℕ → Bool) (n a b : ℕ) → a ≤ b → b ≤ n → ((i : ℕ) → a ≤ i → i < b → q i ≡ false) → first_from q a (n - a) ≡ first_from q b (n - b)
passed_by q n a zero l m h = let e : a ≡ 0 = omega arith in rw e refl
passed_by q n a (suc b) l m h =
    ⊎_elim (λ e. rw e refl)
    (λ lt.
    passed_by q n a b (le_of_suc-le-suc lt) (omega arith) (λ i p r. h i p (omega arith))
    ∙ first_skip q b n (omega arith) (h b (le_of_suc-le-suc lt) (omega arith))
    ∙ rw (add-one b) refl)
    (eq-or-lt_of_le l)

module _ {p : ℕ → Bool} {a b n : ℕ} (l : Leads p a b n) where
  -- a walk whose steps do nothing where p does not hold
  pub leads_walk : {A : Type 0} (f : ℕ → A → A) (s : A) → ((j : ℕ) → p j ≡ false → (x : A) → f j x ≡ x) → up_to f b s ≡ up_to f a s
  leads_walk f s h = still f s a b l.from (λ j u v x. h j (l.skipped j u v) x)

  -- a search for what holds only where p does
  pub leads_first : (q : ℕ → Bool) → ((j : ℕ) → p j ≡ false → q j ≡ false) → first_from q a (n - a) ≡ first_from q b (n - b)
  leads_first q h = passed_by q n a b l.from l.within (λ i u v. h i (l.skipped i u v))

  -- a loop that makes the walk and goes where it is led: over a turn, at its beginning
  pub leads_more : {A : Type 0} (f : ℕ → A → A) {j : ℕ} (s₀ s s' : A) → ((i : ℕ) → p i ≡ false → (x : A) → f i x ≡ x) → a ≡ j + 1 → s ≡ up_to f j s₀ → s' ≡ f j s → s' ≡ up_to f b s₀
  leads_more f {j} s₀ s s' h e q r = up_to_more f j s₀ s s' q r ∙ rw (← e) (sym (leads_walk f s₀ h))

  pub leads_start : {A : Type 0} (f : ℕ → A → A) (s : A) → ((i : ℕ) → p i ≡ false → (x : A) → f i x ≡ x) → a ≡ 0 → s ≡ up_to f b s
  leads_start f s h e = up_to_none f s ∙ rw (← e) (sym (leads_walk f s h))

  pub leads_count : count_if p b ≡ count_if p a
  leads_count = count_rest p a b l.from l.skipped

-- tests that agree lead to the same
pub leads_same : {p q : ℕ → Bool} {a b n : ℕ} → ((i : ℕ) → i < n → p i ≡ q i) → Leads p a b n → Leads q a b n
leads_same h l =
    record {
      from = l.from;
      within = l.within;
      skipped = λ i u v. sym (h i (let w = l.within in omega arith)) ∙ l.skipped i u v;
      met = λ v. sym (h _ v) ∙ l.met v;
    }

-- where nothing passes, to the end
pub leads_nowhere : {p : ℕ → Bool} {a n : ℕ} → a ≤ n → ((i : ℕ) → i < n → p i ≡ false) → Leads p a n n
leads_nowhere l h = record { from = l; within = omega arith; skipped = λ i u v. h i v; met = λ v. absurd (omega arith) }
