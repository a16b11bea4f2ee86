-- `make_told` meets its contract: made, and its numbers told from the store that the move left.
use Rattle.moves_tell.proofs.laws.Most.{numbered}
use Rattle.calls_run.proofs.Tracing.{numbers_of, room_of}
use borrow.Author.Rules.{rules}
use Rattle.calls_run.proofs.running.make_told.Goals as goal

pub numbers_if-requires : goal.numbers_if-requires
numbers_if-requires c = (search rules, λ t. (numbered _ _ _ _ _ _ c.requires.0 c.make-moved.ensures.store, room_of _ _ _ _ c.make-moved.ensures.store (c.requires.3 t)))

pub returns : goal.returns
returns c = (c.make-moved.ensures, record { told_if = numbers_of _ _ _ _ c.make-moved.ensures.store c.numbers_if.ensures.told_if; same = c.numbers_if.ensures.same })
