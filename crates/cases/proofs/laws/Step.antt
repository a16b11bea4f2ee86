-- The worked session printed, computed.
use Rattle.std.specs.Prelude.{◌≡◌, refl}
use Rattle.rules_sessions.specs.Line.{is_digit, digit_value, all_digits, line_ok, byte_of, bytes_to, opens}
use Rattle.rules_sessions.specs.Text.{glyph, pair, digits, line_of}
use Rattle.rules_sessions.specs.Command.{long_at, last_clear, plain, advance_of, arrival_of, value_of, run_of, command_of, line_command}
use Rattle.rules_sessions.specs.AnswerLine.{answer_frame}
use Rattle.rules_sessions.specs.RecordLines.{record_lines}
use Rattle.rules_sessions.specs.Session.{lines_from, load_deed, advance_deed, arrival_deed, run_deed, arrival_by, frame_deed, lines_print, prints_with, prints}
use Rattle.cases.specs.Claim.{everything}
use Rattle.cases.specs.Step.{input, output}

-- every definition on the way, beside those of the machine
lines_too : Unit {0}
unfolding everything input output is_digit digit_value all_digits line_ok byte_of bytes_to opens glyph pair digits line_of long_at last_clear plain advance_of arrival_of value_of run_of command_of line_command answer_frame record_lines lines_from load_deed advance_deed arrival_deed run_deed arrival_by frame_deed lines_print prints_with
lines_too = tt

-- the one claim
pub session_printed : prints input ≡ output
unfolding lines_too
session_printed = refl
