-- `best_from` meets its contract. The invariant: `best`, with its key h, is the least of the event inputs before i. What `next_waiting` passes by changes nothing.
use Rattle.moves_least.proofs.Turns.{best_first, best_won, best_lost, best_end}
use native.Mathlib.Omega.{arith}
use Rattle.moves_least.proofs.best_from.Goals as goal
use Rattle.moves_least.proofs.best_from.Goals.{then-beats_at, else-beats_at}

pub loop-i-init : goal.loop-i-init
loop-i-init c = (best_first _ _ _ c.requires.3 c.requires.2 c.key_of-h.ensures, omega arith)

pub loop-i-preserved : goal.loop-i-preserved
loop-i-preserved c =
    let l = c.next_waiting-i.ensures in
    let p = c.loop-i.invariant.0 in
    let beaten = c.beats_at.ensures in
    elim c.if-beats_at.branch [
      | then-beats_at w ↦ (best_won _ _ _ l p (omega arith) beaten w.if-beats_at.true w.key_of-h-then-beats_at.ensures w.best-is w.h-is, omega arith)
      | else-beats_at w ↦ (best_lost _ _ _ l p (omega arith) beaten w.if-beats_at.false w.best-is w.h-is, omega arith)
    ]

pub returns : goal.returns
returns c = best_end _ _ _ c.next_waiting-i.ensures c.loop-i.invariant.0 c.if-n-i.true c.requires.0
