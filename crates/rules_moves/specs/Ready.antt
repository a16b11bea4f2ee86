-- What is known of the answer that a move is made by: what it names is there.
use Rattle.std.specs.Prelude.{Bool, true, ◌≡◌, ltb}
use Rattle.rules_tables.specs.declared.Shape.{Shape}
use Rattle.rules_tables.specs.Ids.{inputs, transitions, actions, steps}
use Rattle.rules_moves.specs.declared.Next.{Next}
use Rattle.rules_moves.specs.declared.Next.TheVariants.{Take, Change, Idle, Step, End, Back, Nothing}

-- ---- what an answer found is one of the table's
abbrev pub in_table : Shape → Next → Bool
in_table S (Take i) = ltb i (inputs S)
in_table S (Change j) = ltb j (transitions S)
in_table S Idle = true
in_table S (Step j) = ltb j (steps S)
in_table S (End j) = ltb j (actions S)
in_table S Back = true
in_table S Nothing = true

pub record Ready (S : Shape) (n : Next) : Type 0 where
  pub known : in_table S n ≡ true
