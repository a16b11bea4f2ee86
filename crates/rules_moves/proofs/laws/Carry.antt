-- What is known of an association that speaks for an event input.
use Rattle.std.specs.Prelude.{◌≡◌, List, true, ℕ, eqb}
use borrow.Author.Tests.{eqb-true}
use Rattle.rules_walks.proofs.laws.Pick.{both_left, both_right}
use Rattle.rules_tables.specs.declared.Shape.{Shape}
use Rattle.rules_tables.specs.Kind.{of_input}
use Rattle.rules_tables.specs.Frame.{flag_at, field_at}
use Rattle.rules_tables.specs.Ids.{association_frame}
use Rattle.rules_moves.specs.Carry.{voice, speaks}

module _ (T : List ℕ) (S : Shape) (i j : ℕ) (h : speaks T S (voice of_input i) j ≡ true) where
  pub of_input_lem : flag_at T (association_frame S j) ≡ of_input
  unfolding speaks
  of_input_lem = eqb-true _ of_input (both_left (eqb (flag_at T (association_frame S j)) of_input) (eqb (field_at T (association_frame S j) 0) i) h)

  pub of_event : field_at T (association_frame S j) 0 ≡ i
  unfolding speaks
  of_event = eqb-true _ i (both_right (eqb (flag_at T (association_frame S j)) of_input) (eqb (field_at T (association_frame S j) 0) i) h)
