-- `put_line` meets its contract: the digits, then the end of the line.
use Rattle.lines.proofs.Printing.{line_ended}
use mathlib.Core.Path.{refl}
use Rattle.lines.proofs.text.put_line.Goals as goal

pub returns : goal.returns
returns c = (line_ended _ _ _ _ _ _ c.put_digits.ensures refl refl, refl)
