-- `one_step` meets its contract: what its operation told goes to its variable and is counted. The result is in the signed range, so the machine reads it as it
-- was written.
use mathlib.Core.Path.{ap, ◌∙◌}
use mir.Syntax.{w32}
use mir.Facts.{to_z-of_z}
use Rattle.rules_walks.specs.Pick.{pick}
use Rattle.rules_numbers.specs.declared.Outcome.{Outcome}
use Rattle.rules_numbers.specs.Word.{word}
use Rattle.rules_moves.specs.Act.{untrue_step}
use Rattle.moves_next.proofs.Turns.{step_is}
use Rattle.moves_next.proofs.act.one_step.Goals as goal

pub returns : goal.returns
unfolding untrue_step
returns c =
    let told = c.step_outcome-told.ensures in
    let u = c.untrue_of-u.ensures ∙ ap (λ (o : Outcome). pick o.is_true 0 1) told in
    let x = c.to_word.ensures ∙ ap word (to_z-of_z {w = w32} {z = c.step_outcome-told.result.result} (record { sfits = c.struct_told-1.given.0.1 })) ∙ ap (λ (o : Outcome). word o.result) told in
    (step_is _ _ _ _ _ _ _ x u c.field.ensures.0 c.put_value.ensures c.count_untrue.ensures, u)
