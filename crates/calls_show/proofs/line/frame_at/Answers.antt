-- `frame_at` meets its contract: a whole line has the form of a frame, which is written over a frame.
use Rattle.calls_show.proofs.Lines.{whole_long, whole_ok}
use Rattle.lines.proofs.laws.Frame.{frame_whole}
use Rattle.rules_sessions.specs.Line.{line_frame}
use mathlib.Core.Path.{ap, ◌∙◌}
use borrow.Author.Rules.{rules}
use Rattle.calls_show.proofs.line.frame_at.Goals as goal

pub line_at-requires : goal.line_at-requires
line_at-requires c = whole_long _ _ c.requires

pub put_frame-requires : goal.put_frame-requires
put_frame-requires c = (rw c.line_at.ensures (whole_ok _ _ c.requires), search rules)

pub returns : goal.returns
returns c = c.put_frame.ensures ∙ frame_whole _ ∙ ap line_frame c.line_at.ensures
