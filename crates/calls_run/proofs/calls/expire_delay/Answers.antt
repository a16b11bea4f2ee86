-- `expire_delay` meets its contract: its output is fired, and it is cleared.
use borrow.Author.Rules.{rules}
use Rattle.calls_run.proofs.Turns.{fired_kept, output_missing, output_fired, output_known}
use Rattle.calls_run.proofs.calls.expire_delay.Goals as goal

pub returns-in_default : goal.returns-in_default
returns-in_default c = output_missing _ _ _ _ _ _ c.outputs.ensures c.nth.ensures c.in_default.is c.put_due.ensures

pub fire-requires : goal.fire-requires
fire-requires c = output_known _ _ _ _ _ c.outputs.ensures c.nth.ensures c.in-Some.is

pub put_due-requires-2 : goal.put_due-requires-2
put_due-requires-2 c = (search rules, c.requires.0, fired_kept _ _ _ _ _ c.requires.1 c.requires.2 c.fire.ensures)

pub returns : goal.returns
returns c = output_fired _ _ _ _ _ _ c.outputs.ensures c.nth.ensures _ c.in-Some.is c.fire.ensures c.put_due-2.ensures
