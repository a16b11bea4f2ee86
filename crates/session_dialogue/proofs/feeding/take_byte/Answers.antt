-- `take_byte` meets its contract: the line that the byte ends, or one character more.
use Rattle.session_dialogue.proofs.Taking.{line_ends, line_grows}
use native.Mathlib.Omega.{arith}
use Rattle.session_dialogue.proofs.feeding.take_byte.Goals as goal

pub returns-then-b-eq10 : goal.returns-then-b-eq10
returns-then-b-eq10 c = (λ rd out w. line_ends rd out _ _ _ _ _ _ w _ _ c.if-b-eq10.true c.stretch.ensures c.take_line-r.ensures.0 (omega (arith, c.take_line-r.ensures.1.room)) c.with_line.ensures, omega (arith, c.take_line-r.ensures.1.room, c.with_line.ensures.3))

pub returns : goal.returns
returns c = (λ rd out w. line_grows rd out _ _ _ _ _ _ w _ c.if-b-eq10.false c.put_at.ensures c.one_more-longer.ensures c.with_line-2.ensures, omega (arith, c.with_line-2.ensures.3))
