-- `table_line` meets its contract: the frame is kept, or the line is malformed.
use Rattle.session_dialogue.proofs.Telling.{took_is, right_frame, wrong_frame, table_grows}
use native.Mathlib.Omega.{arith}
use mathlib.Core.Path.{sym, ◌∙◌}
use Rattle.session_dialogue.proofs.frame.table_line.Goals as goal

pub returns-then-not-line_ok : goal.returns-then-not-line_ok
returns-then-not-line_ok c = (λ T st W w. took_is (wrong_frame T st _ c.line_ok.ensures (c.if-not-line_ok.true)) (c.malformed.ensures.0 _ st W), c.malformed.ensures.1)

pub keep-end-requires : goal.keep-end-requires
keep-end-requires c = sym c.line_ok.ensures ∙ c.if-not-line_ok.false

pub returns : goal.returns
returns c = (λ T st W w. took_is (right_frame T st _ c.line_ok.ensures (c.if-not-line_ok.false)) (table_grows _ _ T _ _ _ st W _ w (c.keep-end.ensures T) c.with_end.ensures), record { length_is = c.with_end.ensures.2; room = omega (arith, c.with_end.ensures.3) })
