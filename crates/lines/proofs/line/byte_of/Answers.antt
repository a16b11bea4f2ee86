-- `byte_of` meets its contract: each character of a line of the form is a digit, and so is each zero past its end.
use Rattle.lines.proofs.Reading.{byte_value}
use Rattle.rules_sessions.proofs.laws.Digits.{all_digits_at}
use Rattle.rules_sessions.specs.Line.{is_digit}
use mathlib.Core.Path.{ap, ◌∙◌}
use Rattle.lines.proofs.line.byte_of.Goals as goal

pub digit_value-high-requires : goal.digit_value-high-requires
digit_value-high-requires c = ap is_digit c.character.ensures ∙ all_digits_at _ c.requires.0 _

pub digit_value-low-requires : goal.digit_value-low-requires
digit_value-low-requires c = ap is_digit c.character-2.ensures ∙ all_digits_at _ c.requires.0 _

pub returns : goal.returns
returns c = byte_value _ _ c.character.ensures c.digit_value-high.ensures c.character-2.ensures c.digit_value-low.ensures
