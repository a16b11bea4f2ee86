-- `body_ok` meets its contract: flag, step count and unused fields, tested in the order of `body_ok`.
use Rattle.std.proofs.Common.{◌≡◌, ◌∙◌, sym, rules}
use borrow.Author.Tests.{le-leb, lt-leb}
use Rattle.rules_walks.proofs.laws.Pick.{clash}
use Rattle.rules_tables.specs.Form.{body_ok}
use Rattle.table_frames.proofs.Coded.{held}
use Rattle.table_frames.proofs.laws.Form.{held_flags}
use Rattle.table_frames.proofs.form.body_ok.Goals as goal
use Rattle.table_frames.proofs.form.body_ok.Goals.{then-g-from, else-g-from}

pub returns-then-steps_ok : goal.returns-then-steps_ok
unfolding body_ok
returns-then-steps_ok c =
    let y : c.from.result ≡ (held c.number.result).flags = search rules in
    let e = y ∙ held_flags c.number.result in
    elim c.if-g-from.branch [
      | then-g-from w ↦ rw (← c.requires.1, ← c.number.ensures.0, ← e, ← c.flag-g.ensures.0, le-leb _ _ w.if-g-from.true, ← w.steps_ok.ensures, ← w.value-is, c.if-steps_ok.true) (rw (c.number.ensures.0, ← c.used.ensures) c.clear.ensures)
      | else-g-from w ↦ clash (sym (lt-leb _ _ w.if-g-from.false) ∙ sym w.value-is ∙ c.if-steps_ok.true)
    ]

pub returns-else-steps_ok : goal.returns-else-steps_ok
unfolding body_ok
returns-else-steps_ok c =
    let y : c.from.result ≡ (held c.number.result).flags = search rules in
    let e = y ∙ held_flags c.number.result in
    elim c.if-g-from.branch [
      | then-g-from w ↦ rw (← c.requires.1, ← c.number.ensures.0, ← e, ← c.flag-g.ensures.0, le-leb _ _ w.if-g-from.true, ← w.steps_ok.ensures, ← w.value-is, c.if-steps_ok.false)
      | else-g-from w ↦ rw (← c.requires.1, ← c.number.ensures.0, ← e, ← c.flag-g.ensures.0, c.if-steps_ok.false, lt-leb _ _ w.if-g-from.false)
    ]
