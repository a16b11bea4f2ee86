-- `steps_ok` meets its contract: only an action's step count is looked at.
use Rattle.rules_tables.specs.Form.{steps_ok}
use Rattle.table_frames.proofs.laws.Kind.{is_action}
use Rattle.table_frames.proofs.form.steps_ok.Goals as goal

pub returns-then-ne : goal.returns-then-ne
unfolding steps_ok
returns-then-ne c = rw (← c.requires.1, ← is_action c.args.kind, ← c.ne.ensures, c.if-ne.true)

pub returns-else-ne : goal.returns-else-ne
unfolding steps_ok
returns-else-ne c = rw (← c.requires.1, ← is_action c.args.kind, ← c.ne.ensures, c.if-ne.false, ← c.field.ensures.0)
