-- `enabled` meets its contract: event, then guard; the state is the one that the transition leaves.
use mathlib.Core.Path.{refl}
use borrow.Author.Tests.{eq-eqb}
use Rattle.rules_moves.specs.Chart.{enabled}
use Rattle.moves_chart.proofs.enabled.Goals as goal

pub returns-then-not-heard : goal.returns-then-not-heard
unfolding enabled
returns-then-not-heard c = rw (eq-eqb _ _ refl, ← c.transition_frame-f.ensures.is, ← c.field.ensures.0, ← c.heard.ensures, c.if-not-heard.true)

pub returns : goal.returns
unfolding enabled
returns c = rw (eq-eqb _ _ refl, ← c.transition_frame-f.ensures.is, ← c.field.ensures.0, ← c.heard.ensures, c.if-not-heard.false) (c.guard_holds.ensures _ c.transition_frame-f.ensures.is)
