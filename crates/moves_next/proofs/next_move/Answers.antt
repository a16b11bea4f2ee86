-- `next_move` meets its contract: by the mode.
use Rattle.moves_next.proofs.Turns.{next_idle, next_charts, next_acts}
use Rattle.rules_moves.proofs.laws.Next.{answer_ready}
use Rattle.moves_next.proofs.next_move.Goals as goal

pub returns-in-0 : goal.returns-in-0
returns-in-0 c = let e = next_idle _ _ _ _ c.in-0.is c.next_event.ensures in (e, answer_ready _ _ c.args.r _ c.args.ix.now.net.good _ e)

pub returns-in-1 : goal.returns-in-1
returns-in-1 c = let e = next_charts _ _ _ _ c.in-1.is c.next_transition.ensures in (e, answer_ready _ _ c.args.r _ c.args.ix.now.net.good _ e)

pub returns-in_default : goal.returns-in_default
returns-in_default c = let e = next_acts _ _ _ _ c.in_default.in_default-own.rest.0.1 c.in_default.in_default-own.rest.1 c.next_act.ensures in (e, answer_ready _ _ c.args.r _ c.args.ix.now.net.good _ e)
