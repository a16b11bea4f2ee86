-- Window after window is the whole rule.
use Rattle.std.specs.Prelude.{◌≡◌, refl, Bool, true, false, not, ℕ, ◌+◌, ◌≤◌, ◌<◌, ltb, leb}
use Rattle.std.proofs.Common.{sym, ap, ◌∙◌, ⊎_elim, arith}
use borrow.Author.Tests.{lt-ltb, le-ltb, le-leb, lt-leb}
use Rattle.rules_walks.specs.Pick.{both}
use Rattle.rules_walks.proofs.laws.Pick.{either_true, both_true, tri}
use Rattle.rules_walks.proofs.laws.All.{all_intro}
use Rattle.rules_walks.specs.Held.{held_to}
use Rattle.rules_walks.proofs.laws.Held.{held_end, held_both, held_same}
use Rattle.table_network.specs.Windows.{in_window, under_key}

pub not_not : (a : Bool) → not (not a) ≡ a
not_not true = refl
not_not false = refl

module _ (p : ℕ → Bool) (key : ℕ → ℕ) where
  pub window_low : (b size f : ℕ) → key f < b → in_window p key b size f ≡ true
  unfolding in_window
  window_low b size f l = rw (lt-ltb (key f) b l)

  pub window_high : (b size f : ℕ) → b + size ≤ key f → in_window p key b size f ≡ true
  unfolding in_window
  window_high b size f l = rw (le-leb (b + size) (key f) l, either_true (ltb (key f) b))

  pub window_in : (b size f : ℕ) → b ≤ key f → key f < b + size → in_window p key b size f ≡ p f
  unfolding in_window
  window_in b size f l h = rw (le-ltb (key f) b l, lt-leb (b + size) (key f) h)

  -- a frame that keeps the rule keeps it in each window
  pub window_kept : (b size f : ℕ) → p f ≡ true → in_window p key b size f ≡ true
  unfolding in_window
  window_kept b size f e = rw (e, either_true (leb (b + size) (key f)), either_true (ltb (key f) b))

  under_kept : (b f : ℕ) → b ≤ key f → under_key p key b f ≡ true
  unfolding under_key
  under_kept b f l = rw (le-leb b (key f) l)

  under_is : (b f : ℕ) → key f < b → under_key p key b f ≡ p f
  unfolding under_key
  under_is b f l = rw (lt-leb b (key f) l)

  one_more : (b size f : ℕ) → both (under_key p key b f) (in_window p key b size f) ≡ under_key p key (b + size) f
  one_more b size f = ⊎_elim low (λ w. ⊎_elim (λ e. mid (omega arith)) (λ g. mid (omega arith)) w) (tri (key f) b)
    where
      low : key f < b → both (under_key p key b f) (in_window p key b size f) ≡ under_key p key (b + size) f
      low l = rw (window_low b size f l, both_true (under_key p key b f), under_is b f l, under_is (b + size) f (omega arith))

      above : b ≤ key f → b + size ≤ key f → both (under_key p key b f) (in_window p key b size f) ≡ under_key p key (b + size) f
      above l h = rw (under_kept b f l, window_high b size f h, under_kept (b + size) f h)

      mid : b ≤ key f → both (under_key p key b f) (in_window p key b size f) ≡ under_key p key (b + size) f
      mid l =
          ⊎_elim (λ h. rw (under_kept b f l, window_in b size f l h, under_is (b + size) f h))
          (λ w. above l (⊎_elim (λ e. omega arith) (λ g. omega arith) w)) (tri (key f) (b + size))

  -- no window yet, one more, and enough of them
  pub windows_none : (n : ℕ) → n ≡ held_to (under_key p key 0) n
  windows_none n = held_end (under_key p key 0) n (all_intro (under_key p key 0) n (λ f l. under_kept 0 f (omega arith)))

  pub windows_more : (n b size e r : ℕ) → e ≡ held_to (under_key p key b) n → r ≡ held_to (in_window p key b size) e → r ≡ held_to (under_key p key (b + size)) n
  windows_more n b size e r h q =
      q ∙ ap (held_to (in_window p key b size)) h
      ∙ held_both (under_key p key b) (in_window p key b size) n
      ∙ held_same (λ f. both (under_key p key b f) (in_window p key b size f)) (under_key p key (b + size)) n (λ f l. one_more b size f)

  pub windows_all : (n b e : ℕ) → ((f : ℕ) → f < n → b ≤ key f → p f ≡ true) → e ≡ held_to (under_key p key b) n → e ≡ held_to p n
  windows_all n b e h q = q ∙ held_same (under_key p key b) p n same
    where
      same : (f : ℕ) → f < n → under_key p key b f ≡ p f
      same f l =
          ⊎_elim (λ w. under_is b f w) (λ w. let z : b ≤ key f = ⊎_elim (λ e. omega arith) (λ g. omega arith) w in under_kept b f z ∙ sym (h f l z)) (tri (key f) b)
