-- `written_size` meets its contract: a sink or not (`sized_sink`, `sized_other`).
use Rattle.moves_take.proofs.laws.Known.{at_frame, owner_in}
use Rattle.moves_take.proofs.Turns.{sized_sink, sized_other}
use Rattle.moves_take.proofs.record.written_size.Goals as goal

pub flag-requires : goal.flag-requires
flag-requires c = owner_in _ _ _ (at_frame _ 0 c.input_frame.ensures.is c.field.ensures.0) c.args.net.now.good c.requires

pub returns-then-flag-eq-SINK : goal.returns-then-flag-eq-SINK
returns-then-flag-eq-SINK c = sized_sink _ _ _ (at_frame _ 0 c.input_frame.ensures.is c.field.ensures.0) c.flag.ensures.0 c.if-flag-eq-SINK.true c.record_size.ensures.0

pub returns-else-flag-eq-SINK : goal.returns-else-flag-eq-SINK
returns-else-flag-eq-SINK c = sized_other _ _ _ (at_frame _ 0 c.input_frame.ensures.is c.field.ensures.0) c.flag.ensures.0 c.if-flag-eq-SINK.false
