-- `find_transition` meets its contract. The invariant: the search goes on from transition j, which leaves the state (`Searching` (Turns)).
use native.Mathlib.Omega.{arith}
use Rattle.moves_chart.proofs.Turns.{search_begins, search_goes_on, search_nearer, search_hits, search_ends}
use Rattle.moves_chart.proofs.find_transition.Goals as goal

pub loop-j-init : goal.loop-j-init
loop-j-init c = search_begins _ _ _ _ _ _ c.first_transition-j.ensures

pub loop-j-smaller : goal.loop-j-smaller
loop-j-smaller c = let h = search_nearer _ _ _ _ _ _ c.loop-j.invariant (omega (arith, c.transitions-n.ensures)) c.next_transition-j.ensures in omega arith

pub loop-j-preserved : goal.loop-j-preserved
loop-j-preserved c = search_goes_on _ _ _ _ _ _ c.loop-j.invariant (omega (arith, c.transitions-n.ensures)) c.enabled.ensures c.if-enabled.false c.next_transition-j.ensures

pub returns-then-n-j : goal.returns-then-n-j
returns-then-n-j c = search_ends _ _ _ _ _ _ c.loop-j.invariant (omega (arith, c.transitions-n.ensures))

pub returns-then-enabled : goal.returns-then-enabled
returns-then-enabled c = search_hits _ _ _ _ _ _ c.loop-j.invariant (omega (arith, c.transitions-n.ensures)) c.enabled.ensures c.if-enabled.true
