-- `guard::signed_value` meets its contract: the word of the variable, read with its sign.
use mir.Syntax.{w32}
use mathlib.Core.Path.{ap, ◌∙◌}
use mir.Facts.{to_z-of_z}
use Rattle.rules_numbers.specs.Word.{signed}
use Rattle.moves_chart.proofs.guard.signed_value.Goals as goal

pub returns : goal.returns
returns c = to_z-of_z {w = w32} (record { sfits = c.to_signed.type_inv }) ∙ c.to_signed.ensures ∙ ap signed c.value_of.ensures
