-- `put_owned` meets its contract by its test.
use Rattle.session_trace.proofs.Showing.{owned_true, owned_told, owned_none}
use borrow.Author.Rules.{rules}
use Rattle.session_trace.proofs.shown.put_owned.Goals as goal

pub put_variable-requires : goal.put_variable-requires
put_variable-requires c = (search rules, c.requires.1 (owned_true _ _ c.args.store.now _ _ c.variable_frame.ensures.is c.field.ensures.0 c.if-field-el.true))

pub returns-then-field-el : goal.returns-then-field-el
returns-then-field-el c = owned_told _ _ _ _ _ c.variable_frame.ensures.is c.field.ensures.0 c.if-field-el.true c.put_variable.ensures

pub returns-else-field-el : goal.returns-else-field-el
returns-else-field-el c = owned_none _ _ _ _ _ c.variable_frame.ensures.is c.field.ensures.0 c.if-field-el.false
