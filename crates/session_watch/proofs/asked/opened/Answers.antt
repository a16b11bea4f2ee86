-- `opened` meets its contract by its tests: only the line that ends the table loads it.
use Rattle.session_watch.proofs.Opening.{opened_load, opened_not, opened_past}
use mathlib.Core.Path.{sym, ◌∙◌}
use Rattle.session_watch.proofs.asked.opened.Goals as goal

pub returns-then-not-in_table : goal.returns-then-not-in_table
returns-then-not-in_table c = λ g W w. opened_past _ _ _ _ W (sym c.in_table.ensures ∙ c.if-not-in_table.true) g w

pub returns-then-not-opens : goal.returns-then-not-opens
returns-then-not-opens c = λ g W w. opened_not _ _ _ _ W (sym c.opens.ensures ∙ c.if-not-opens.true) g w

pub returns : goal.returns
returns c = λ g W w. opened_load _ _ _ _ W (sym c.in_table.ensures ∙ c.if-not-in_table.false) (sym c.opens.ensures ∙ c.if-not-opens.false) c.tell_load.ensures.0 g w
