-- The check's answer, taken apart as the calls do it; its number and frame fit one number (Bounds).
use mathlib.Core.Path.{ap, ◌∙◌}
use Rattle.rules_calls.specs.Answer.{refused_of}
use Rattle.rules_calls.specs.Exports.{packed}
use Rattle.rules_calls.proofs.laws.Compact.{check_compact}
use Rattle.xaluudhiga.proofs.xal_check.Goals as goal

pub pack-requires : goal.pack-requires
pack-requires c = rw (c.refused.ensures, c.check.ensures.0) (check_compact _)

pub returns : goal.returns
returns c = c.pack.ensures ∙ ap packed (c.refused.ensures ∙ ap refused_of c.check.ensures.0)
