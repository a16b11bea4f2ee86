-- `clear` meets its contract: a list that is filled with 0 is clear (`clear_none`).
use Rattle.numbers_bits.proofs.laws.Bit.{clear_none}
use Rattle.numbers_bits.proofs.clear.Goals as goal

pub returns : goal.returns
returns c = (c.fill.ensures.len, rw (c.fill.ensures.after (λ y e. e)) (clear_none _))
