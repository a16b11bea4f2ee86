-- `fresh::pair_key` meets its contract; the product of two small numbers is small (`mul-le-mul`).
use native.Mathlib.Nat.{mul-le-mul}
use native.Mathlib.Omega.{arith}
use mathlib.Core.Path.{refl}
use Rattle.table_network.specs.Keys.{pair_key}
use Rattle.table_network.proofs.fresh.pair_key.Goals as goal

pub overflow_mul-result : goal.overflow_mul-result
overflow_mul-result c = let z = mul-le-mul {n₁ = c.args.x} {m₁ = c.args.ys} {n₂ = 65536} {m₂ = 4096} (omega arith) (omega arith) in omega arith

pub overflow_add-result : goal.overflow_add-result
overflow_add-result c = let z = mul-le-mul {n₁ = c.args.x} {m₁ = c.args.ys} {n₂ = 65536} {m₂ = 4096} (omega arith) (omega arith) in omega arith

pub returns : goal.returns
unfolding pair_key
returns c = refl
