-- `put_element` meets its contract: the line, then its variables.
use Rattle.session_trace.proofs.Walking.{element_printed}
use Rattle.session_trace.proofs.shown.put_element.Goals as goal

pub returns : goal.returns
returns c = element_printed _ _ _ _ c.put_line_of-from.ensures c.put_variables.ensures
