-- Owners as the rules say them: a frame's entry stands for its owner exactly where the frame belongs to it.
use Rattle.std.specs.Prelude.{◌≡◌, List, Bool, ℕ, ◌+◌, ◌*◌, ◌≤◌, ◌<◌, get_or}
use Rattle.std.proofs.Math.Path.{refl}
use Rattle.std.proofs.Common.{sym, ◌∙◌}
use Rattle.std.proofs.Math.Bool.{true, false}
use native.Mathlib.Omega.{arith}
use Rattle.std.proofs.Math.Dec.{eqb}
use borrow.Author.Tests.{eq-eqb, ne_eqb, eqb-true}
use Rattle.rules_walks.specs.Pick.{both, either}
use Rattle.rules_walks.proofs.laws.Pick.{both_left, both_right, clash}
use Rattle.rules_tables.specs.Frame.{flag_at, field_at}
use Rattle.rules_tables.specs.Owned.{any, belongs}
use Rattle.table_index.specs.Leads.{Leads}
use Rattle.table_index.proofs.laws.Leads.{leads_same, leads_nowhere}
use Rattle.table_index.specs.Chain.{owner_at, Chained}
use Rattle.table_index.specs.Index.{Follows}

module _ (T : List ℕ) (first : ℕ) where
  -- whatever flag it has: its field a
  pub owner_any : (x i : ℕ) → eqb (owner_at T first 0 i) x ≡ belongs T first any x i
  unfolding owner_at belongs
  owner_any x i = let e : 0 * flag_at T (first + i) + field_at T (first + i) 0 ≡ field_at T (first + i) 0 = omega arith in rw e

  pub any_owner : (x i : ℕ) → belongs T first any x i ≡ true → field_at T (first + i) 0 ≡ x
  unfolding belongs
  any_owner x i e = eqb-true _ _ e

  -- a frame of another owner
  pub beyond_owner : (g x i : ℕ) → (field_at T (first + i) 0 ≡ x → ⊥) → belongs T first g x i ≡ false
  unfolding belongs
  beyond_owner g x i d = by (either (eqb g any) (eqb (flag_at T (first + i)) g))
    where
      by : (b : Bool) → both b (eqb (field_at T (first + i) 0) x) ≡ false
      by true = ne_eqb _ _ d
      by false = refl

  -- and what it says of one that belongs
  pub belongs_flag : (g x i : ℕ) → belongs T first g x i ≡ true → ((g ≡ any → ⊥) → flag_at T (first + i) ≡ g) × (field_at T (first + i) 0 ≡ x)
  unfolding belongs
  belongs_flag g x i b = (
    λ d. eqb-true (flag_at T (first + i)) g (rw (ne_eqb g any d) at (both_left (either (eqb g any) (eqb (flag_at T (first + i)) g)) (eqb (field_at T (first + i) 0) x) b)),
    eqb-true (field_at T (first + i) 0) x (both_right (either (eqb g any) (eqb (flag_at T (first + i)) g)) (eqb (field_at T (first + i) 0) x) b),
  )

  -- its flag and its field a, where w numbers tell them apart
  module _ (w g x i : ℕ) (told : g ≤ 2) (few : field_at T (first + i) 0 < w) (low : x < w)
      (split : w * flag_at T (first + i) + field_at T (first + i) 0 ≡ w * g + x → (flag_at T (first + i) ≡ g) × (field_at T (first + i) 0 ≡ x)) where
    pub owner_flag : eqb (owner_at T first w i) (w * g + x) ≡ belongs T first g x i
    unfolding owner_at belongs
    owner_flag = rw (ne_eqb g any (λ z. omega arith)) (by (eqb (flag_at T (first + i)) g) refl (eqb (field_at T (first + i) 0) x) refl)
      where
        by : (a : Bool) → eqb (flag_at T (first + i)) g ≡ a → (b : Bool) → eqb (field_at T (first + i) 0) x ≡ b → eqb (w * flag_at T (first + i) + field_at T (first + i) 0) (w * g + x) ≡ both a b
        by true p true q =
            eq-eqb (w * flag_at T (first + i) + field_at T (first + i) 0) (w * g + x) (rw (eqb-true (flag_at T (first + i)) g p, eqb-true (field_at T (first + i) 0) x q) refl)
        by true p false q = ne_eqb _ _ (λ z. clash (sym q ∙ eq-eqb _ _ (split z).1))
        by false p b q = ne_eqb _ _ (λ z. clash (sym p ∙ eq-eqb _ _ (split z).0))

-- ---- what an entry tells its reader
module _ (T : List ℕ) (first n base owners : ℕ) (ix : List ℕ) where
  -- of owners told by their field alone
  module _ (w : Chained (owner_at T first 0) first n base owners 0 ix) where
    pub first_any : (x : ℕ) → x < owners → Leads (belongs T first any x) 0 (get_or ix (base + x) 0) n
    first_any x l = leads_same (λ i _. owner_any T first x i) (w.heads x l)

    pub follows_any : (j : ℕ) → j < n → Follows T first any n j (get_or ix (first + j) 0)
    follows_any j l =
        record {
          next =
              λ x b.
              let e : owner_at T first 0 j ≡ x = eqb-true _ _ (owner_any T first x j ∙ b) in
              leads_same (λ i _. owner_any T first x i) (rw e at (w.nexts j (omega arith) l));
        }

-- no frame belongs to an owner beyond those that there are
pub first_beyond : (T : List ℕ) (first n owners : ℕ) → ((i : ℕ) → i < n → field_at T (first + i) 0 < owners) → (g x : ℕ) → owners ≤ x → Leads (belongs T first g x) 0 n n
first_beyond T first n owners few g x l = leads_nowhere (omega arith) (λ i u. beyond_owner T first g x i (let h = few i u in λ z. omega arith))
