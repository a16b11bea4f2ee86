-- `line_command` meets its contract: the frame of a line of the form decides.
use Rattle.lines.proofs.laws.Frame.{frame_whole}
use Rattle.rules_sessions.specs.Command.{command_of, line_command}
use mathlib.Core.Path.{ap, ◌∙◌}
use Rattle.session_lines.proofs.command.line_command.Goals as goal

pub returns : goal.returns
unfolding line_command
returns c = rw (← c.line_ok.ensures, c.if-not-line_ok.false) (c.command_of.ensures ∙ ap command_of (c.put_frame.ensures ∙ frame_whole _))
