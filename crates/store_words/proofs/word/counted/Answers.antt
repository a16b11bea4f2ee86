-- `counted` meets its contract by cases: not to be counted, below the end, at the end.
use Rattle.rules_store.specs.Word.{counted}
use borrow.Author.Tests.{lt-ltb, le-ltb, ne_eqb}
use Rattle.store_words.proofs.word.counted.Goals as goal

pub returns-then-w-eq0 : goal.returns-then-w-eq0
unfolding counted
returns-then-w-eq0 c = rw c.if-w-eq0.true

pub returns-then-n-lt-COUNT_END : goal.returns-then-n-lt-COUNT_END
unfolding counted
returns-then-n-lt-COUNT_END c = rw (ne_eqb _ _ c.if-w-eq0.false, lt-ltb _ _ c.if-n-lt-COUNT_END.true)

pub returns-else-n-lt-COUNT_END : goal.returns-else-n-lt-COUNT_END
unfolding counted
returns-else-n-lt-COUNT_END c = rw (ne_eqb _ _ c.if-w-eq0.false, le-ltb _ _ c.if-n-lt-COUNT_END.false)
