-- One turn of the loops that look for the least: an event input that does not wait is passed by; one that does is the first, or it is looked at against the least so far.
use mathlib.Core.Path.{◌≡◌, refl, sym, ◌∙◌}
use mathlib.Core.Bool.{Bool, true, false}
use mathlib.Core.List.{List}
use mathlib.Core.Logic.{⊎_elim}
use Prim.Native.Nat.{ℕ, ◌+◌, ◌≤◌, ◌<◌}
use native.Mathlib.Nat.{eq-or-lt_of_le}
use native.Mathlib.Omega.{arith}
use lib.Dec.{eqb}
use borrow.Author.Tests.{not-true, not-false}
use Rattle.rules_walks.specs.Choose.{choose}
use Rattle.rules_walks.specs.Walk.{up_to}
use Rattle.rules_walks.proofs.laws.Walk.{up_to_more, up_to_end}
use Rattle.rules_tables.specs.declared.Shape.{Shape}
use Rattle.rules_tables.specs.Ids.{inputs}
use Rattle.rules_store.specs.Word.{waiting}
use Rattle.rules_moves.specs.declared.Key.{Key}
use Rattle.rules_moves.specs.Least.{Best}
use Rattle.std.specs.Prelude.{Some, None}
use Rattle.rules_moves.specs.Least.{key_of, beats, better, look, least}
use Rattle.table_index.specs.Leads.{Leads}
use Rattle.table_index.proofs.laws.Leads.{leads_walk, leads_start}
use Rattle.moves_least.specs.Waits.{waits_at}

-- ---- the search for the next that waits: one more that does not
pub skipped_more : (p : ℕ → Bool) {a b : ℕ} → ((j : ℕ) → a ≤ j → j < b → p j ≡ false) → p b ≡ false → (j : ℕ) → a ≤ j → j < b + 1 → p j ≡ false
skipped_more p {a} {b} h q j u v = let m : j ≤ b = omega arith in ⊎_elim (λ e. rw e q) (λ l. h j u l) (eq-or-lt_of_le m)

module _ (T : List ℕ) (S : Shape) (s : List ℕ) where
  -- ---- one event input: it does not wait, it is the first that does, it beats the least so far or not
  look_idle : (i : ℕ) → waits_at S s i ≡ false → (x : Best) → look T S s i x ≡ x
  unfolding waits_at look choose
  look_idle i q x = rw (not-false (eqb (waiting S s i) 0) q)

  look_first : (i : ℕ) → waits_at S s i ≡ true → Some (i, key_of T S s i) ≡ look T S s i None
  unfolding waits_at look choose better
  look_first i q = rw (not-true (eqb (waiting S s i) 0) q)

  look_won : (i b : ℕ) (h : Key) → waits_at S s i ≡ true → beats (key_of T S s i) h ≡ true → Some (i, key_of T S s i) ≡ look T S s i (Some (b, h))
  unfolding waits_at look choose better
  look_won i b h q u = rw (not-true (eqb (waiting S s i) 0) q, u)

  look_lost : (i b : ℕ) (h : Key) → waits_at S s i ≡ true → beats (key_of T S s i) h ≡ false → Some (b, h) ≡ look T S s i (Some (b, h))
  unfolding waits_at look choose better
  look_lost i b h q u = rw (not-true (eqb (waiting S s i) 0) q, u)

  -- ---- the walk over all of them, as the loop makes it: where nothing waits, from the first that does, over a turn, at its end
  pub best_none : {a n : ℕ} → Leads (waits_at S s) 0 a n → n ≤ a → n ≡ inputs S → None ≡ least T S s
  unfolding least
  best_none l m e = up_to_end _ _ _ _ _ (leads_start l (look T S s) None look_idle refl) (let w = l.within in omega arith)

  pub best_first : {a n : ℕ} {k : Key} → Leads (waits_at S s) 0 a n → a < n → k ≡ key_of T S s a → Some (a, k) ≡ up_to (look T S s) (a + 1) None
  best_first {a} l m e = up_to_more _ a _ _ _ (leads_start l (look T S s) None look_idle refl) (rw e (look_first a (l.met m)))

  module _ {a i n b : ℕ} {h : Key} (l : Leads (waits_at S s) a i n) (p : Some (b, h) ≡ up_to (look T S s) a None) where
    led : Some (b, h) ≡ up_to (look T S s) i None
    led = p ∙ sym (leads_walk l (look T S s) None look_idle)

    pub best_won : {r : Bool} {b' : ℕ} {h' k : Key} → i < n → r ≡ beats (key_of T S s i) h → r ≡ true → k ≡ key_of T S s i → b' ≡ i → h' ≡ k → Some (b', h') ≡ up_to (look T S s) (i + 1) None
    best_won m u v e x y = up_to_more _ i _ _ _ led (rw (x, y, e) (look_won i b h (l.met m) (sym u ∙ v)))

    pub best_lost : {r : Bool} {b' : ℕ} {h' : Key} → i < n → r ≡ beats (key_of T S s i) h → r ≡ false → b' ≡ b → h' ≡ h → Some (b', h') ≡ up_to (look T S s) (i + 1) None
    best_lost m u v x y = up_to_more _ i _ _ _ led (rw (x, y) (look_lost i b h (l.met m) (sym u ∙ v)))

    pub best_end : n ≤ i → n ≡ inputs S → Some (b, h) ≡ least T S s
    unfolding least
    best_end m e = up_to_end _ _ _ _ _ led (let w = l.within in omega arith)
