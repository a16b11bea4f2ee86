-- `whole_line` meets its contract: long enough, all digits, ended.
use native.Mathlib.Omega.{arith}
use borrow.Author.Rules.{rules}
use Rattle.calls_show.proofs.Lines.{line_short, line_other, line_ended}
use mathlib.Core.Path.{sym, ap, ◌∙◌}
use mathlib.Core.Bool.{not}
use Rattle.calls_show.proofs.line.whole_line.Goals as goal
use Rattle.calls_show.proofs.line.whole_line.Goals.{then-text-at-ge-DIGITS, else-text-at-ge-DIGITS}

pub returns-else-all_digits : goal.returns-else-all_digits
returns-else-all_digits c = c.if-all_digits.false ∙ elim c.if-text-at-ge-DIGITS.branch [ then-text-at-ge-DIGITS w ↦ line_other _ _ (omega arith) w.line_at.ensures w.all_digits.ensures (ap not (sym w.value-is ∙ c.if-all_digits.false)) | else-text-at-ge-DIGITS w ↦ line_short _ _ c.requires w.if-text-at-ge-DIGITS.false ]

pub returns-then-all_digits : goal.returns-then-all_digits
returns-then-all_digits c = elim c.if-text-at-ge-DIGITS.branch [ then-text-at-ge-DIGITS w ↦ line_ended _ _ (omega arith) w.line_at.ensures w.all_digits.ensures (ap not (sym w.value-is ∙ c.if-all_digits.true)) c.ended_at.ensures | else-text-at-ge-DIGITS w ↦ search rules ]
