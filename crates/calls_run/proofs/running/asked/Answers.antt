-- `asked` meets its contract: no move, no room, no room for the trace where there is one, no budget, in this order.
use Rattle.moves_tell.proofs.laws.Telling.{is_ready}
use Rattle.calls_run.proofs.Tracing.{no_move, no_room, plain_spent, no_space, traced_spent}
use Rattle.calls_run.proofs.running.asked.Goals as goal
use Rattle.calls_run.proofs.running.asked.Goals.{else-tracing-via-then-tracing+else-not-fits-2, else-tracing-via-else-tracing}

pub returns-then-still : goal.returns-then-still
returns-then-still c = no_move _ _ _ _ _ _ _ _ _ _ c.requires.0 c.requires.1 c.still.ensures c.if-still.true

pub fits-requires : goal.fits-requires
fits-requires c = is_ready _ _ _ _ _ _ c.args.turn.telling

pub returns-then-not-fits : goal.returns-then-not-fits
returns-then-not-fits c = no_room _ _ _ _ _ _ _ _ _ _ c.requires.0 c.requires.1 c.still.ensures c.if-still.false c.fits.ensures c.if-not-fits.true

pub returns-then-not-fits-2 : goal.returns-then-not-fits-2
returns-then-not-fits-2 c = no_space _ _ _ _ _ _ _ _ _ _ c.requires.0 c.requires.1 c.still.ensures c.if-still.false c.fits.ensures c.if-not-fits.false c.if-tracing.true c.fits-then-tracing.ensures c.if-not-fits-2.true

pub returns : goal.returns
returns c =
    elim c.else-tracing.branch [ else-tracing-via-then-tracing+else-not-fits-2 w ↦ traced_spent _ _ _ _ _ _ _ _ _ _ c.requires.0 c.requires.1 c.still.ensures c.if-still.false c.fits.ensures c.if-not-fits.false w.if-tracing.true w.fits-then-tracing.ensures w.if-not-fits-2.false c.spent.ensures | else-tracing-via-else-tracing w ↦ plain_spent _ _ _ _ _ _ _ _ _ _ c.requires.0 c.requires.1 c.still.ensures c.if-still.false c.fits.ensures c.if-not-fits.false w.if-tracing.false c.spent.ensures ]
