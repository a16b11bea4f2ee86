-- Laws of the one writer of due words: what it gives its element and leaves to the others, that it keeps the next due time, and how that is found without looking
-- through all elements. And what keeps it besides: every change that leaves the due words.
use Rattle.std.specs.Prelude.{◌≡◌, refl, Bool, false, ◌⊎◌, ℕ, ◌+◌, ◌≤◌, ◌<◌}
use Rattle.std.proofs.Math.Path.{sym}
use Rattle.std.proofs.Common.{◌∙◌, arith}
use mathlib.Core.List.{List, []}
use Rattle.std.proofs.Math.ListN.{length}
use Rattle.rules_walks.specs.All.{Witness}
use Rattle.rules_tables.specs.declared.Shape.{Shape}
use Rattle.rules_tables.specs.Ids.{elements}
use Rattle.rules_store.specs.Layout.{need, element_at, input_at, variable_at}
use Rattle.rules_store.specs.Word.{due_flag, due_time, set_due, next_due, put_next, put_input, put_value}
use Rattle.rules_store.specs.Part.{Part, due, just, SameDue, Leaves, Outside}
use Rattle.rules_store.proofs.laws.Part.{set_back, same_due, same_next, input_touches, value_touches}
use Rattle.rules_store.specs.Own.{Due}
use Rattle.rules_store.proofs.laws.Own.{next_put, due_set, set_other, next_leaves_due}
use Rattle.rules_store.proofs.laws.Writer.{leaves_next, leaves_set}
use Rattle.rules_store.specs.Formed.{Formed}
use Rattle.rules_store.specs.Due.{due_then, earliest, put_due}
use Rattle.rules_store.specs.Earliest.{Earliest, another, NextKept}
use Rattle.rules_store.proofs.laws.Due.{earliest_means, earliest_same, due_first, due_stays}

-- ---- what it writes
module _ (S : Shape) (s : List ℕ) where
  pub due_other : (el k flag t : ℕ) → (k ≡ el → ⊥) → SameDue s (put_due S el flag t s) k
  unfolding put_due
  due_other el k flag t n =
      let x = set_due el flag t s in
      let u = next_leaves_due S x (earliest x (elements S)) k in
      let w = set_other S s el k flag t n in
      record { flag = u.flag ∙ w.flag; at = u.at ∙ w.at }

  module _ (long : need S ≤ length s) where
    pub due_put : (el flag t : ℕ) → el < elements S → Due el flag t (put_due S el flag t s)
    unfolding put_due
    due_put el flag t l =
        let x = set_due el flag t s in
        let u = next_leaves_due S x (earliest x (elements S)) el in
        let w = due_set S s long el flag t l in
        record { flagged = u.flag ∙ w.flagged; timed = u.at ∙ w.timed }

    -- document 02, A5: "START, STOP, advance and load all keep it right"
    pub put_keeps : (el flag t : ℕ) → el < elements S → NextKept S (put_due S el flag t s)
    unfolding put_due
    put_keeps el flag t l =
        let x = set_due el flag t s in
        let a = earliest x (elements S) in
        let z : need S ≤ length x = omega (arith, (leaves_set [] S (just due) s el flag t l refl).long) in
        record {
          long = omega (arith, (leaves_next [] S (just due) x a refl).long);
          next = next_put S x z a ∙ sym (earliest_same x (put_next a x) (elements S) (λ k _. next_leaves_due S x a k));
        }

-- ---- the due words that an element has already: nothing changes
pub next_back : (x : List ℕ) → put_next (next_due x) x ≡ x
unfolding put_next next_due
next_back x = rw (set_back x 9, set_back x 10)

set_same : (s : List ℕ) (el : ℕ) → set_due el (due_flag s el) (due_time s el) s ≡ s
unfolding set_due due_flag due_time
set_same s el = rw (set_back s (element_at el + 1), set_back s (element_at el + 2))

pub put_same : (S : Shape) (s : List ℕ) → NextKept S s → (el flag t : ℕ) → Due el flag t s → put_due S el flag t s ≡ s
unfolding put_due
put_same S s k el flag t d = rw (← d.flagged, ← d.timed, set_same s el, ← k.next) (next_back s)

-- ---- how the next due time is found without looking through all elements
pub kept_means : (S : Shape) (s : List ℕ) → NextKept S s → Earliest s (elements S) (next_due s)
kept_means S s k = rw k.next (earliest_means s (elements S))

module _ (S : Shape) (s : List ℕ) (k : NextKept S s) (el flag t : ℕ) (l : el < elements S) where
  -- el becomes due, and nothing was due before its time
  pub put_first : (flag ≡ 0 → ⊥) → ((next_due s).due ≡ 1 → t ≤ (next_due s).time) → put_due S el flag t s ≡ put_next (due_then t) (set_due el flag t s)
  unfolding put_due
  put_first f h = rw (due_first s (set_due el flag t s) (elements S) el flag t l (due_set S s k.long el flag t l) (λ j n. set_other S s el j flag t n) (next_due s) (kept_means S s k) f h)

  -- el does not come first, and nothing was due, or another one is due at the earliest time
  pub put_stays : (flag ≡ 0) ⊎ (((next_due s).due ≡ 1) × ((next_due s).time ≤ t)) → ((next_due s).due ≡ 1 → Witness (another s (next_due s).time el) (elements S))
      → put_due S el flag t s ≡ put_next (next_due s) (set_due el flag t s)
  unfolding put_due
  put_stays h x = rw (due_stays s (set_due el flag t s) (elements S) el flag t l (due_set S s k.long el flag t l) (λ j n. set_other S s el j flag t n) (next_due s) (kept_means S s k) h x)

-- ---- a well-formed store has it
pub formed_keeps : (T : List ℕ) (S : Shape) (s : List ℕ) → Formed T S s → NextKept S s
formed_keeps T S s g = record { long = g.parts.long; next = g.parts.next }

-- ---- every change that leaves the due words
pub leaves_keeps : (T : List ℕ) (S : Shape) (f : Part → Bool) (s s' : List ℕ) → Leaves T S f s s' → f due ≡ false → NextKept S s → NextKept S s'
leaves_keeps T S f s s' w e k =
    record {
      long = let q = w.long in let z = k.long in omega arith;
      next = w.next_same e ∙ k.next ∙ sym (earliest_same s s' (elements S) (λ el l. w.dues e el l));
    }

-- words past those of the elements: whose they are does not matter
past_keeps : (S : Shape) (lo hi : ℕ) (s s' : List ℕ) → input_at S 0 ≤ lo → Outside lo hi s s' → NextKept S s → NextKept S s'
unfolding input_at element_at
past_keeps S lo hi s s' l o k =
    record {
      long = let q = o.long in let z = k.long in omega arith;
      next =
          same_next s s' (o.apart 9 (λ m n. omega arith)) (o.apart 10 (λ m n. omega arith)) ∙ k.next
          ∙ sym (earliest_same s s' (elements S) (λ el b. same_due s s' el (λ p u v. o.apart p (λ m n. omega arith))));
    }

module _ (S : Shape) (s : List ℕ) (k : NextKept S s) where
  pub value_keeps : (v x : ℕ) → NextKept S (put_value S v x s)
  unfolding variable_at input_at
  value_keeps v x = past_keeps S (variable_at S v) (variable_at S v + 1) s (put_value S v x s) (omega arith) (value_touches s S v x) k

  pub input_keeps : (i flag birth last : ℕ) → NextKept S (put_input S i flag birth last s)
  unfolding input_at
  input_keeps i flag birth last = past_keeps S (input_at S i) (input_at S i + 3) s (put_input S i flag birth last s) (omega arith) (input_touches s S i flag birth last) k
