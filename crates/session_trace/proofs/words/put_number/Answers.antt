-- `put_number` meets its contract: the library puts the fewest digits, and those are the number's.
use Rattle.session_trace.proofs.Decimal.{few_digits, number_told}
use native.Mathlib.Omega.{arith}
use Rattle.session_trace.proofs.words.put_number.Goals as goal

pub put_word-requires : goal.put_word-requires
put_word-requires c = let h = few_digits c.args.n c.decimal-k.result (omega arith) c.decimal-k.ensures.len in let e = c.decimal-k.ensures.in_bounds.1 in omega arith

pub returns : goal.returns
returns c = number_told c.args.n _ _ (omega arith) c.decimal-k.ensures.in_bounds.1 c.decimal-k.ensures.len c.decimal-k.ensures.digits c.put_word.ensures
