-- What a passed test of an association says of its event: it exists.
use mathlib.Core.Path.{◌≡◌}
use mathlib.Core.List.{List}
use mathlib.Core.Bool.{true}
use Prim.Native.Nat.{ℕ, ◌<◌}
use lib.Dec.{eqb}
use borrow.Author.Tests.{ltb-true}
use Rattle.rules_walks.specs.Pick.{both}
use Rattle.rules_walks.proofs.laws.Pick.{both_left}
use Rattle.rules_tables.specs.Kind.{variable}
use Rattle.rules_tables.specs.Frame.{field_at}
use Rattle.rules_tables.specs.Place.{count_of, exists, owner_of, flag_of, owned_by}
use Rattle.rules_tables.specs.Reference.{joins}

module _ (T : List ℕ) where
  -- the event that an association joins
  pub joined_exists : (f k g : ℕ) → joins T f k g ≡ true → field_at T f 0 < count_of T k
  unfolding joins
  joined_exists f k g h =
      ltb-true _ _
      (both_left (exists T k (field_at T f 0))
      (both (owned_by T variable (field_at T f 1) (owner_of T k (field_at T f 0))) (eqb (flag_of T variable (field_at T f 1)) g)) h)
