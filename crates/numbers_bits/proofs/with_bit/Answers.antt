-- `with_bit` meets its contract: a one shifted by less than 32 places loses nothing.
use Rattle.numbers_bits.specs.Bit.{raised}
use mathlib.Core.Path.{ap, ◌∙◌}
use native.Mathlib.Omega.{arith}
use Prim.Native.Nat.{◌<◌, ◌^◌}
use lib.Bits.{bit_or}
use lib.Pow.{shl_exact}
use native.Mathlib.Nat.{one-mul}
use Rattle.numbers_bits.proofs.with_bit.Goals as goal

pub returns : goal.returns
unfolding raised
returns c = ap (bit_or c.args.w) (shl_exact {a = 1} 1 c.args.j 32 (omega arith) (let h : c.args.j < 32 = c.requires in omega arith) ∙ one-mul (2 ^ c.args.j))
