-- `finish` meets its contract: the line that is left, if there is one, then the end.
use Rattle.session_dialogue.proofs.Taking.{ends_bare, ends_line}
use native.Mathlib.Omega.{arith}
use Rattle.session_dialogue.proofs.feeding.finish.Goals as goal

pub returns-then-length-eq0 : goal.returns-then-length-eq0
returns-then-length-eq0 c = (record { last_printed = λ rd out w. ends_bare rd out _ _ _ _ _ _ w c.if-length-eq0.true c.take_none.ensures.0 (omega (arith, c.take_none.ensures.1.room)) }, omega (arith, c.take_none.ensures.1.room))

pub returns : goal.returns
returns c = (record { last_printed = λ rd out w. ends_line rd out _ _ _ _ _ _ w _ c.if-length-eq0.false c.stretch.ensures c.take_line-r.ensures.0 c.take_none-2.ensures.0 (omega (arith, c.requires, c.take_line-r.ensures.1.room, c.take_none-2.ensures.1.room)) }, omega (arith, c.take_line-r.ensures.1.room, c.take_none-2.ensures.1.room))
