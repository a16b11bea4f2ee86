-- What the branches of load and of the running block's check give, over plain variables.
use mathlib.Core.Path.{◌≡◌, sym, ◌∙◌}
use mathlib.Core.List.{List}
use mathlib.Core.Bool.{true}
use Prim.Native.Nat.{ℕ, zero, suc, ◌-◌, ◌≤◌}
use mathlib.Core.List.{◌++◌}
use mathlib.Core.Path.{refl, ap}
use native.Mathlib.Omega.{arith}
use lib.ListN.{length, drop, replicate, set}
use Rattle.std.proofs.Common.{add-one}
use Rattle.std.proofs.lemmas.List.Edits.{fill_none, fill_more}
use Rattle.rules_walks.specs.Walk.{up_to}
use Rattle.rules_store.specs.Load.{zeroes}
use lib.Dec.{eqb, leb}
use borrow.Author.Tests.{eq-eqb, ne_eqb, leb-true}
use Rattle.rules_walks.specs.Pick.{both}
use Rattle.rules_walks.proofs.laws.Pick.{both_left}
use Rattle.rules_walks.specs.Choose.{choose}
use Rattle.rules_tables.specs.Kind.{basic}
use Rattle.rules_tables.specs.Frame.{flag_at, field_at}
use Rattle.rules_tables.specs.declared.Shape.{Shape}
use Rattle.rules_store.specs.declared.Running.{Running}
use Rattle.rules_tables.specs.Ids.{elements, inputs, input_frame, action_frame}
use Rattle.rules_store.specs.Word.{put_chart_state}
use Rattle.std.specs.Prelude.{Option, Some, None}
use Rattle.table_parts.specs.Found.{found_of}
use Rattle.rules_tables.specs.Actions.{action_of}
use Rattle.table_parts.proofs.laws.Found.{was_one, was_missing}
use Rattle.rules_store.specs.WellFormed.{owner_ok, step_ok}
use Rattle.rules_store.specs.Load.{initial}

-- one turn of the loop that sets initial states: a basic element, and another
module _ (T : List ℕ) (el : ℕ) (s s' : List ℕ) {x : ℕ} (p : x ≡ flag_at T el) where
  pub initial_basic : {y : ℕ} → x ≡ basic → y ≡ field_at T el 1 → s' ≡ put_chart_state el y s → s' ≡ initial T el s
  unfolding initial choose
  initial_basic q r u = rw (eq-eqb _ _ (sym p ∙ q), ← r) u

  pub initial_other : (x ≡ basic → ⊥) → s' ≡ s → s' ≡ initial T el s
  unfolding initial choose
  initial_other q u = rw (ne_eqb _ _ (λ h. q (p ∙ h))) u

-- an owner that passes is there
pub owner_some : (T : List ℕ) (S : Shape) (e i : ℕ) → owner_ok T S e i ≡ true → 1 ≤ e
unfolding owner_ok
owner_some T S e i h =
    leb-true 1 e
    (both_left (leb 1 e)
    (both (leb e (elements S)) (both (eqb (flag_at T (e - 1)) basic) (both (leb 1 i) (both (leb i (inputs S)) (eqb (field_at T (input_frame S (i - 1)) 0) (e - 1)))))) h)

-- the step, where no action was found and where one was
module _ (T : List ℕ) (S : Shape) (r : Running) (q : ℕ) {w : ℕ} {f : Option ℕ} (a : w ≡ r.action) (p : f ≡ found_of (action_of T S q w)) where
  pub step_none : f ≡ None → step_ok T S r (action_of T S q r.action) ≡ both (eqb r.action 0) (eqb r.step 0)
  unfolding step_ok
  step_none m = rw (← a, was_missing (action_of T S q w) (sym p ∙ m))

  pub step_one : (j : ℕ) → f ≡ Some j → step_ok T S r (action_of T S q r.action) ≡ leb r.step (field_at T (action_frame S j) 2)
  unfolding step_ok
  step_one j m = rw (← a, was_one (action_of T S q w) j (sym p ∙ m))

-- the words zeroed one by one are zeros, and the rest
pub zeroes_fill : (n : ℕ) (s : List ℕ) → n ≤ length s → zeroes n s ≡ replicate n 0 ++ drop n s
unfolding up_to
zeroes_fill zero s h = fill_none s 0
zeroes_fill (suc n) s h = ap (λ (x : List ℕ). set x n 0) (zeroes_fill n s (omega arith)) ∙ fill_more n 0 s (omega arith) ∙ rw (add-one n) refl
