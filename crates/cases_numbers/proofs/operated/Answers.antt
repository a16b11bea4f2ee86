-- `operated` meets its contract: the result that is told is in the signed range, so the machine reads it as it was written.
use mathlib.Core.Path.{◌≡◌, refl, ap, ◌∙◌}
use mathlib.Core.Bool.{Bool, true, false}
use mir.Val.{bool_byte}
use mir.Syntax.{w32}
use mir.Facts.{to_z-of_z}
use Rattle.rules_walks.specs.Pick.{pick}
use Rattle.rules_numbers.specs.declared.Outcome.{Outcome}
use Rattle.rules_numbers.specs.Word.{word}
use Rattle.rules_numbers.specs.Truth.{outcome}
use Rattle.cases_numbers.proofs.operated.Goals as goal

one_or_none : (b : Bool) → bool_byte b ≡ pick b 1 0
one_or_none true = refl
one_or_none false = refl

pub returns : goal.returns
unfolding outcome
returns c = λ i. (
  (c.to_word.ensures ∙ ap word (to_z-of_z {w = w32} {z = c.outcome_words-told.result.result} (record { sfits = c.struct_told-1.given.0.1 })) ∙ ap (λ (o : Outcome). word o.result) c.outcome_words-told.ensures) i,
  (c.from.ensures ∙ one_or_none c.outcome_words-told.result.is_true ∙ ap (λ (o : Outcome). pick o.is_true 1 0) c.outcome_words-told.ensures) i,
)
