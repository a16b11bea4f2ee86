-- `start_variable` meets its contract: the value, and the buffer of an input.
use Rattle.rules_walks.specs.Choose.{choose}
use Rattle.rules_store.specs.Load.{start}
use borrow.Author.Tests.{eq-eqb, ne_eqb}
use Rattle.store_load.proofs.load.start_variable.Goals as goal

pub returns-then-flag-eq-INPUT : goal.returns-then-flag-eq-INPUT
unfolding start choose
returns-then-flag-eq-INPUT c = rw (← c.variable_frame.ensures.is, ← c.flag.ensures.0, eq-eqb _ _ c.if-flag-eq-INPUT.true, ← c.start_value-x.ensures, ← c.put_value.ensures) c.put_buffer.ensures

pub returns-else-flag-eq-INPUT : goal.returns-else-flag-eq-INPUT
unfolding start choose
returns-else-flag-eq-INPUT c = rw (← c.variable_frame.ensures.is, ← c.flag.ensures.0, ne_eqb _ _ c.if-flag-eq-INPUT.false, ← c.start_value-x.ensures) c.put_value.ensures
