-- What the values of an arrival leave.
use Rattle.std.specs.Prelude.{◌≡◌, List, Bool, true, ℕ, ◌<◌, eqb}
use Rattle.std.proofs.Common.{sym, ◌∙◌}
use Rattle.std.proofs.Math.ListN.{get_or}
use borrow.Author.Tests.{eqb-true}
use Rattle.rules_walks.proofs.laws.Pick.{both_left, clash}
use Rattle.rules_walks.proofs.laws.Choose.{by_choose}
use Rattle.rules_walks.specs.Count.{count_if}
use Rattle.rules_walks.specs.Walk.{up_to}
use Rattle.rules_walks.proofs.laws.Walk.{up_to_keeps}
use Rattle.rules_tables.specs.Kind.{of_output}
use Rattle.rules_tables.specs.Frame.{flag_at, field_at}
use Rattle.rules_tables.specs.declared.Shape.{Shape}
use Rattle.rules_tables.specs.Ids.{associations, association_frame}
use Rattle.rules_store.specs.Word.{put_value}
use Rattle.rules_store.specs.Part.{Part, computed, Leaves}
use Rattle.rules_store.proofs.laws.Part.{leaves_all, leaves_then}
use Rattle.rules_tables.specs.Lawful.{Lawful}
use Rattle.rules_store.proofs.laws.Writer.{leaves_value}
use Rattle.rules_moves.specs.Carry.{voice, speaks}
use Rattle.rules_calls.specs.Calls.{give}

module _ (T : List ℕ) (S : Shape) (k : Lawful T S) (f : Part → Bool) where
  -- a variable of an output association is no input
  give_leaves : f computed ≡ true → (o : ℕ) (values : List ℕ) (j : ℕ) (s : List ℕ) → j < associations S → Leaves T S f s (give T S o values j s)
  unfolding give speaks
  give_leaves c o values j s l =
      let v = field_at T (association_frame S j) 1 in
      let x = get_or values (count_if (speaks T S (voice of_output o)) j) 0 in
      by_choose (Leaves T S f s) (speaks T S (voice of_output o) j) (put_value S v x s) s
      (λ e.
      let g = eqb-true (flag_at T (association_frame S j)) 1 (both_left (eqb (flag_at T (association_frame S j)) 1) (eqb (field_at T (association_frame S j) 0) o) e) in
      leaves_value T S f s v x (k.is_good.association_variable j l) (λ _. k.given_other j l g) (λ h. clash (sym h ∙ c))) (λ _. leaves_all T S f s)

  pub gives_leaves : f computed ≡ true → (o : ℕ) (values s : List ℕ) → Leaves T S f s (up_to (give T S o values) (associations S) s)
  gives_leaves c o values s =
      up_to_keeps (Leaves T S f s) (give T S o values) (associations S) s
      (λ j h x w. leaves_then T S f s x (give T S o values j x) (give_leaves c o values j x h) w) (leaves_all T S f s)
