-- `put_signed` meets its contract: a sign where the word is negative.
use Rattle.session_trace.proofs.Decimal.{signed_plain, signed_negative}
use native.Mathlib.Omega.{arith}
use Rattle.session_trace.proofs.words.put_signed.Goals as goal

pub returns-then-w-lt-NEGATIVE : goal.returns-then-w-lt-NEGATIVE
returns-then-w-lt-NEGATIVE c = signed_plain _ c.if-w-lt-NEGATIVE.true (omega arith) c.put_number.ensures

pub returns : goal.returns
returns c = signed_negative _ c.if-w-lt-NEGATIVE.false (omega arith) c.put_word-from.ensures c.put_number-2.ensures
