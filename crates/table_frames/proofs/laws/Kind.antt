-- The kinds of the code have the numbers of the rules.
use Rattle.std.specs.Prelude.{◌≡◌, refl, ℕ, ◌+◌, ◌<◌, ◌≤◌, get_or, eqb, MatchOption, IsSome}
use Rattle.std.proofs.Common.{sym, ◌∙◌, arith, rules, Option, Some, None}
use Rattle.std.proofs.Math.ListN.{get_or-map}
use Rattle.std.proofs.lemmas.List.FromFn.{get_or-range_with_len}
use Rattle.rules_tables.specs.Kind.{action}
use Rattle.table_frames.specs.Kind.{kind_number}
use Rattle.table_frames.proofs.Coded.{all_kinds}
use Rattle.table_frames.specs.declared.kind.Kind.{Kind}
use Rattle.table_frames.specs.declared.kind.Kind.TheVariants.{Zero, Element, EventInput, EventOutput, Variable, Association, ChartState, Transition, Action, Step, EventConnection, DataConnection}
use Rattle.table_frames.specs.contracts.kind.Kind.{the_type}
use denote.Enum.Bare.{sameb}

-- those that a table has stand in its order
pub kind_in_order : (i : ℕ) → i < 11 → kind_number (get_or all_kinds i Zero) ≡ i + 1
kind_in_order i l = sym (get_or-map kind_number all_kinds i Zero) ∙ get_or-range_with_len 1 11 i 0 l ∙ omega arith

-- the code's tests for an action, and for the number that is not a kind
pub is_action : (k : Kind) → sameb the_type k Action ≡ eqb (kind_number k) action
is_action Zero = refl
is_action Element = refl
is_action EventInput = refl
is_action EventOutput = refl
is_action Variable = refl
is_action Association = refl
is_action ChartState = refl
is_action Transition = refl
is_action Action = refl
is_action Step = refl
is_action EventConnection = refl
is_action DataConnection = refl

pub is_zero : (k : Kind) → sameb the_type k Zero ≡ eqb (kind_number k) 0
is_zero Zero = refl
is_zero Element = refl
is_zero EventInput = refl
is_zero EventOutput = refl
is_zero Variable = refl
is_zero Association = refl
is_zero ChartState = refl
is_zero Transition = refl
is_zero Action = refl
is_zero Step = refl
is_zero EventConnection = refl
is_zero DataConnection = refl

-- what `Kind::of` answers of the number of a kind, and of which number it is
module _ (o : Option Kind) (x : ℕ) (h : MatchOption o (12 ≤ x) (λ k. (kind_number k ≡ x) × (x < 12))) where
  pub some_kind : x < 12 → IsSome o
  some_kind l = by o refl
    where
      by : (p : Option Kind) → o ≡ p → IsSome o
      by None e = absurd (let w = rw e at h in omega arith)
      by (Some k) e = rw e (search rules)

  pub kind_of : (k : Kind) → o ≡ Some k → kind_number k ≡ x
  kind_of k e = (rw e at h).0
