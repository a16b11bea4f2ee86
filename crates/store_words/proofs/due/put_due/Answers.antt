-- `put_due` meets its contract: it comes first, or the next due time stays, or looking finds it.
use Rattle.store_words.proofs.laws.Due.{first_put, stays_put, look_put}
use Rattle.store_words.proofs.due.put_due.Goals as goal

pub returns-then-comes_first : goal.returns-then-comes_first
returns-then-comes_first c = first_put _ _ c.requires.2 _ c.requires.1 c.next_due-next.ensures _ _ c.set_due.ensures c.comes_first.ensures c.if-comes_first.true c.put_next.ensures

pub returns-then-same : goal.returns-then-same
returns-then-same c = stays_put _ _ c.requires.2 _ c.requires.1 c.next_due-next.ensures _ _ c.set_due-2.ensures c.comes_first.ensures c.if-comes_first.false (c.stays-same.ensures c.if-same.true)

pub returns : goal.returns
returns c = look_put _ _ c.requires.2 _ c.requires.1 c.next_due-next.ensures _ _ c.set_due-2.ensures c.elements.ensures c.earliest-found.ensures c.put_next-2.ensures
