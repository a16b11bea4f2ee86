-- Partners go both ways: the partner of an event's partner is the event. So an interface's output speaks by the event that was taken.
use Rattle.std.specs.Prelude.{◌≡◌, List, true, ℕ, ◌+◌, ◌<◌, eqb}
use Rattle.std.proofs.Math.Path.{refl}
use Rattle.std.proofs.Common.{arith}
use borrow.Author.Tests.{eq-eqb, ne_eqb, eqb-true}
use Rattle.rules_walks.proofs.laws.Pick.{both_left}
use Rattle.rules_walks.specs.First.{one}
use Rattle.rules_walks.proofs.laws.First.{first_means}
use Rattle.rules_tables.specs.Kind.{interface, input, output, of_input, of_output}
use Rattle.rules_tables.specs.Frame.{flag_at, field_at}
use Rattle.rules_tables.specs.declared.Shape.{Shape}
use Rattle.rules_tables.specs.Ids.{first_input, first_output, first_variable, inputs, outputs, variables, variable_frame}
use Rattle.rules_tables.specs.Owned.{any, belongs, rank, is_nth}
use Rattle.rules_tables.proofs.laws.Owned.{nth_own, nth_belongs, nth_rank}
use Rattle.rules_moves.specs.Partner.{input_owner, output_owner, variable_owner, partner_output, partner_input, partner_variable}
use Rattle.rules_moves.specs.Carry.{voice, voice_of}

module _ (T : List ℕ) (S : Shape) (i o : ℕ) (known : i < inputs S) (partner : partner_output T S i ≡ one o) where
  -- the partner is of the same element, and has as many of its sort before it
  pub same_element : output_owner T S o ≡ input_owner T S i
  unfolding partner_output belongs
  same_element = eqb-true (output_owner T S o) (input_owner T S i) (nth_belongs T (first_output S) (outputs S) any (input_owner T S i) (rank T (first_input S) any (input_owner T S i) i) o partner)

  level : rank T (first_output S) any (input_owner T S i) o ≡ rank T (first_input S) any (input_owner T S i) i
  unfolding partner_output
  level = nth_rank T (first_output S) (outputs S) any (input_owner T S i) (rank T (first_input S) any (input_owner T S i) i) o partner

  own : belongs T (first_input S) any (input_owner T S i) i ≡ true
  unfolding belongs
  own = eq-eqb (input_owner T S i) (input_owner T S i) refl

  pub partner_back : partner_input T S o ≡ one i
  unfolding partner_input
  partner_back = rw (same_element, level) (nth_own T (first_input S) (inputs S) any (input_owner T S i) i known own)

  -- the partner of an interface's event input speaks by that input
  pub partner_voice : flag_at T (input_owner T S i) ≡ interface → voice_of T S o ≡ voice of_input i
  unfolding voice_of
  partner_voice e = rw (same_element, e, partner_back)

-- an event output that is no interface's speaks by its own associations
pub own_voice : (T : List ℕ) (S : Shape) (o : ℕ) → (flag_at T (output_owner T S o) ≡ interface → ⊥) → voice_of T S o ≡ voice of_output o
unfolding voice_of
own_voice T S o h = rw (ne_eqb (flag_at T (output_owner T S o)) 1 h)

-- an interface's partner is one of its output variables
pub partner_output_lem : (T : List ℕ) (S : Shape) (v u : ℕ) → partner_variable T S v ≡ one u → (u < variables S) × (flag_at T (variable_frame S u) ≡ output)
unfolding partner_variable is_nth belongs
partner_output_lem T S v u e =
    let x = variable_owner T S v in
    let n = rank T (first_variable S) input x v in
    let w = first_means (is_nth T (first_variable S) output x n) 0 (variables S) u e in
    let h = both_left (belongs T (first_variable S) output x u) (eqb (rank T (first_variable S) output x u) n) w.passes in
    let g = both_left (eqb (flag_at T (first_variable S + u)) 1) (eqb (field_at T (first_variable S + u) 0) x) h in
    (let b = w.below in omega arith, eqb-true (flag_at T (variable_frame S u)) 1 g)
