-- `size` meets its contract: only an event that is taken can write.
use Rattle.moves_next.proofs.Turns.{size_take, size_other}
use Rattle.rules_moves.proofs.laws.Next.{ready_input}
use Rattle.moves_next.proofs.size.Goals as goal

pub written_size-requires : goal.written_size-requires
written_size-requires c = ready_input _ _ c.requires _ c.in-Take.is

pub returns-in-Take : goal.returns-in-Take
returns-in-Take c = size_take _ _ _ _ _ _ c.in-Take.is c.written_size.ensures

pub returns-in_default : goal.returns-in_default
returns-in_default c = size_other _ _ _ _ _ c.in_default.not-Take
