-- `line_at` meets its contract: a line is a part of the text.
use mathlib.Core.Path.{refl}
use Rattle.calls_show.proofs.Lines.{part_is}
use Rattle.calls_show.proofs.line.line_at.Goals as goal

pub returns : goal.returns
returns c = part_is _ _ _ refl
