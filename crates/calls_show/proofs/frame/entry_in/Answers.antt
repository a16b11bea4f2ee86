-- `entry_in` meets its contract: part by part.
use Rattle.calls_show.proofs.Turns.{value_at}
use Rattle.rules_traces.specs.Reader.{entry_in}
use Rattle.calls_show.proofs.frame.entry_in.Goals as goal

pub returns : goal.returns
unfolding entry_in
returns c = (rw (← c.flag.ensures.0, ← c.field.ensures.0, ← c.field-2.ensures.0, ← value_at _, ← c.word_at.ensures.is), c.field.ensures.1, c.field-2.ensures.1)
