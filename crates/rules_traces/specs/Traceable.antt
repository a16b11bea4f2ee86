-- What an accepted table keeps beside being lawful, for its trace.
use Rattle.std.specs.Prelude.{◌≡◌, ℕ, ◌≤◌, ◌<◌}
use Rattle.rules_tables.specs.Kind.{internal, of_input}
use Rattle.rules_tables.specs.Frame.{Table, flag_at, field_at}
use Rattle.rules_tables.specs.declared.Shape.{Shape}
use Rattle.rules_tables.specs.Ids.{associations, variables, actions, association_frame, variable_frame, action_frame}
use Rattle.rules_tables.specs.Lawful.{Lawful}
use Rattle.rules_moves.specs.Partner.{input_owner, variable_owner}

pub record Traceable (T : Table) (S : Shape) : Type 0 where
  pub is_lawful : Lawful T S
  -- "An association joins an event input and input variable .. of one element"
  pub association_own : (a : ℕ) → a < associations S → flag_at T (association_frame S a) ≡ of_input
      → variable_owner T S (field_at T (association_frame S a) 1) ≡ input_owner T S (field_at T (association_frame S a) 0)
  -- "0 input, 1 output, 2 internal"
  pub roles : (v : ℕ) → v < variables S → flag_at T (variable_frame S v) ≤ internal
  -- "c number of steps, 0 to 64"
  pub few_steps : (j : ℕ) → j < actions S → field_at T (action_frame S j) 2 ≤ 64
