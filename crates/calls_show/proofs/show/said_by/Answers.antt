-- `said_by` meets its contract: the tests in the order of the definition.
use Rattle.calls_show.proofs.Turns.{said_none, said_broken, said_wrong, said_unknown, said_known}
use Rattle.calls_show.proofs.Lines.{there}
use mathlib.Core.Path.{ap}
use mathlib.Core.Bool.{not}
use Rattle.calls_show.proofs.show.said_by.Goals as goal
use Rattle.calls_show.proofs.show.said_by.Goals.{then-not-another_line-via-then-not-another_line, then-not-another_line-via-else-not-another_line+then-not-whole_line}

pub whole_line-requires : goal.whole_line-requires
whole_line-requires c = there _ _ c.another_line.ensures (ap not c.if-not-another_line.false)

pub returns-then-not-another_line : goal.returns-then-not-another_line
returns-then-not-another_line c = elim c.then-not-another_line.branch [ then-not-another_line-via-then-not-another_line w ↦ said_none _ _ _ _ c.another_line.ensures (ap not w.if-not-another_line.true) | then-not-another_line-via-else-not-another_line+then-not-whole_line w ↦ said_broken _ _ _ _ c.another_line.ensures (ap not w.if-not-another_line.false) w.whole_line.ensures (ap not w.if-not-whole_line.true) ]

pub returns-then-not-right_frame : goal.returns-then-not-right_frame
returns-then-not-right_frame c = said_wrong _ _ _ _ c.another_line.ensures (ap not c.if-not-another_line.false) c.whole_line.ensures (ap not c.if-not-whole_line.false) c.frame_at-frame.ensures c.right_frame.ensures (ap not c.if-not-right_frame.true)

pub returns-then-known_entry : goal.returns-then-known_entry
returns-then-known_entry c = said_known _ _ _ _ c.another_line.ensures (ap not c.if-not-another_line.false) c.whole_line.ensures (ap not c.if-not-whole_line.false) c.frame_at-frame.ensures c.right_frame.ensures (ap not c.if-not-right_frame.false) c.entry_in-e.ensures c.known_entry.ensures c.if-known_entry.true

pub returns-else-known_entry : goal.returns-else-known_entry
returns-else-known_entry c = said_unknown _ _ _ _ c.another_line.ensures (ap not c.if-not-another_line.false) c.whole_line.ensures (ap not c.if-not-whole_line.false) c.frame_at-frame.ensures c.right_frame.ensures (ap not c.if-not-right_frame.false) c.entry_in-e.ensures c.known_entry.ensures c.if-known_entry.false
