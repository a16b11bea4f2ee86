-- Lists put together, one for each number below a bound, in rising order.
use Rattle.std.specs.Prelude.{List, [], ◌++◌, ℕ, zero, suc}

module _ {ℓ} {A : Type ℓ} where
  unfoldable pub gather : (ℕ → List A) → ℕ → List A
  gather f zero = []
  gather f (suc n) = gather f n ++ f n
