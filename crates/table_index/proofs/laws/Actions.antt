-- The k-th action of a state, from 1, found along its chain: what a search that has passed m actions of the state says when it ends.
use Rattle.std.specs.Prelude.{◌≡◌, List, ℕ, ◌+◌, ◌-◌, ◌≤◌, ◌<◌}
use Rattle.std.proofs.Common.{sym, ap, ◌∙◌, arith, ne_eqb}
use Rattle.rules_walks.specs.First.{Sought}
use Rattle.rules_tables.specs.declared.Shape.{Shape}
use Rattle.rules_tables.specs.Ids.{first_action, actions}
use Rattle.rules_tables.specs.Owned.{any, nth}
use Rattle.rules_tables.proofs.laws.Owned.{nth_belongs}
use Rattle.rules_tables.specs.Actions.{action_of}
use Rattle.std.specs.Prelude.{Some, None}
use Rattle.table_parts.specs.Found.{found_of}
use Rattle.table_index.specs.Leads.{or_end}
use Rattle.table_index.specs.Index.{Follows}
use Rattle.table_index.proofs.laws.Nth.{nth_next, nth_at, nth_past, nth_later}

module _ (T : List ℕ) (S : Shape) (q k : ℕ) where
  -- by number from 1, and from 0
  pub action_nth : {l : ℕ} {y : Sought} → (k ≡ 0 → ⊥) → l ≡ k - 1 → nth T (first_action S) (actions S) any q l ≡ y → action_of T S q k ≡ y
  unfolding action_of
  action_nth d e p = rw (ne_eqb k 0 d, ← e) p

  module _ {l j m : ℕ} (some : k ≡ 0 → ⊥) (before : l ≡ k - 1) (passed : m ≤ l) (led : j ≡ or_end (actions S) (nth T (first_action S) (actions S) any q m)) where
    -- the chain has ended before it
    pub action_past : actions S ≤ j → None ≡ found_of (action_of T S q k)
    action_past h =
        let none = nth_past T (first_action S) (actions S) any q m led h in
        let e : m + (l - m) ≡ l = omega arith in
        sym (ap found_of (action_nth some before (rw e at (nth_later T (first_action S) (actions S) any q m (l - m) none))))

    -- it is where the chain has come to
    pub action_at : j < actions S → m ≡ l → Some j ≡ found_of (action_of T S q k)
    action_at h e = sym (ap found_of (action_nth some (e ∙ before) (nth_at T (first_action S) (actions S) any q m led h)))

-- the chain goes on to the next one
pub action_more : (T : List ℕ) (S : Shape) (q m : ℕ) {j r : ℕ} → j ≡ or_end (actions S) (nth T (first_action S) (actions S) any q m) → j < actions S
    → Follows T (first_action S) any (actions S) j r → r ≡ or_end (actions S) (nth T (first_action S) (actions S) any q (m + 1))
action_more T S q m {j} {r} led h f =
    let e = nth_at T (first_action S) (actions S) any q m led h in
    nth_next T (first_action S) (actions S) any q m j r e (f.next q (nth_belongs T (first_action S) (actions S) any q m j e))
