-- Choice by a test, shut: for what is chosen by a test that is not looked at, as a store or a number that a law passes through whole.
-- `pick` computes at once, and a law's arguments cannot be found through it; through `choose` they can.
use Rattle.std.specs.Prelude.{Bool, true, false}

module _ {ℓ} {A : Type ℓ} where
  -- the first where the test holds, else the second
  unfoldable pub choose : Bool → A → A → A
  choose true a b = a
  choose false a b = b
