-- `await_values` meets its contract: the arrival is made, or waits.
use Rattle.session_dialogue.proofs.Telling.{took_is, all_came, still_waits, told_calm}
use native.Mathlib.Omega.{arith}
use Rattle.session_dialogue.proofs.told.await_values.Goals as goal

pub returns-then-a : goal.returns-then-a
returns-then-a c = (λ vs w. took_is (all_came _ _ vs _ _ _ _ _ w c.if-a.true) (c.tell_arrival.ensures.0 w.room), c.tell_arrival.ensures.1)

pub returns : goal.returns
returns c = (λ vs w. still_waits _ _ _ _ vs _ _ _ w c.if-a.false c.told.ensures, told_calm _ _ c.told.ensures 25 (omega arith))
